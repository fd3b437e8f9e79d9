use Rattle.engine.proofs.engine_work_len.Goals as goal

pub returns : goal.returns
returns c = c.work_len.ensures
