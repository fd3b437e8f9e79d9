use Rattle.answer.specs.Cells.{final_fits, answers_true, answers_false, answers-budget, answers_no_storage}
use Rattle.answer.proofs.put_answer.Goals as goal

pub put_verdict-requires-in-False-clause-body_in_bounds : goal.put_verdict-requires-in-False-clause-body_in_bounds
put_verdict-requires-in-False-clause-body_in_bounds c =
    (final_fits c.args.r.status c.args.x.now.state c.requires.left c.requires.room c.sound.ensures.fits c.items.ensures).0

pub put_verdict-requires-in-False-clause-body_len_bound : goal.put_verdict-requires-in-False-clause-body_len_bound
put_verdict-requires-in-False-clause-body_len_bound c =
    (final_fits c.args.r.status c.args.x.now.state c.requires.left c.requires.room c.sound.ensures.fits c.items.ensures).1

pub returns-in-True : goal.returns-in-True
returns-in-True c = answers_true c.args.x.now c.args.r c.args.out.now _ _ c.in-True.is _ c.values.ensures c.put_verdict.ensures

pub returns-in-False : goal.returns-in-False
returns-in-False c = answers_false c.args.x.now c.args.r c.args.out.now _ _ c.in-False.is _ c.items.ensures c.put_verdict-in-False.ensures

pub returns-in-Undef : goal.returns-in-Undef
returns-in-Undef c = answers-budget c.args.x.now c.args.r c.args.out.now _ _ c.in-Undef.is c.put_cause.ensures

pub returns-in-NoStorage : goal.returns-in-NoStorage
returns-in-NoStorage c = answers_no_storage c.args.x.now c.args.r c.args.out.now _ _ c.in-NoStorage.is c.put_cause-in-NoStorage.ensures
