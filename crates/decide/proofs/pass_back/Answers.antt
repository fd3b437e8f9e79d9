use Rattle.std.proofs.Common.{◌<◌, length, arith}
use Rattle.decide.specs.Blaming.{mark-length}
use Rattle.decide.proofs.pass_back.Goals as goal
use Rattle.decide.proofs.pass_back.Goals.{in-None, in-Some}

pub unset-requires : goal.unset-requires
unset-requires c =
    let h : c.var-v.result.0 < length c.args.marks.now = omega (arith, c.var-v.ensures, c.requires.range, c.requires.marks) in
    elim c.match-reason.branch [
      | in-None w ↦ rw w.marks-is h
      | in-Some w ↦ rw (w.marks-is, w.mark_rest.ensures, mark-length) h
    ]
