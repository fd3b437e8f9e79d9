use Rattle.std.proofs.Common.{◌≡◌, ap, ◌∙◌, arith, le-leb, leb-true}
use Rattle.std.proofs.Math.ListN.{get_or}
use Rattle.std.proofs.lemmas.Bool.{lt-leb}
use Rattle.model.specs.Limits.{max_mode, max_phase}
use Rattle.model.specs.Script.{header, header_rows}
use Rattle.options.specs.Numbers.{mode_number, phase_number}
use Rattle.options.proofs.Chosen.{mode-number, phase-number}
use Rattle.script.specs.Judging.{accepted_hold, raised, done, pass, stop, first_stops, first_passes}
use Rattle.script.proofs.Header.read.Goals as goal

pub returns-in_default-clause-judged : goal.returns-in_default-clause-judged
unfolding header_rows
returns-in_default-clause-judged c = stop (lt-leb 6 _ (omega arith))

pub returns-in_err-check-clause-judged : goal.returns-in_err-check-clause-judged
unfolding header header_rows
returns-in_err-check-clause-judged c =
    pass (le-leb 6 _ (omega arith)) (rw (← c.from_one.ensures) (raised c.from_residual.ensures.1 (first_stops c.in_err-check.ensures)))

pub returns-in_err-check-2-clause-judged : goal.returns-in_err-check-2-clause-judged
unfolding header header_rows
returns-in_err-check-2-clause-judged c =
    pass (le-leb 6 _ (omega arith)) (rw (← c.from_one.ensures) (raised c.from_residual-in_err-check-2.ensures.1 (first_passes c.in_ok-check.ensures (first_stops c.in_err-check-2.ensures))))

pub returns-in_err-check-3-clause-judged : goal.returns-in_err-check-3-clause-judged
unfolding header header_rows
returns-in_err-check-3-clause-judged c =
    pass (le-leb 6 _ (omega arith)) (rw (← c.from_one.ensures) (raised c.from_residual-in_err-check-3.ensures.1 (first_passes c.in_ok-check.ensures (first_passes c.in_ok-check-2.ensures (first_stops c.in_err-check-3.ensures)))))

pub returns-in_err-check-4-clause-judged : goal.returns-in_err-check-4-clause-judged
unfolding header header_rows
returns-in_err-check-4-clause-judged c =
    pass (le-leb 6 _ (omega arith)) (rw (← c.from_one.ensures) (raised c.from_residual-in_err-check-4.ensures.1 (first_passes c.in_ok-check.ensures (first_passes c.in_ok-check-2.ensures (first_passes c.in_ok-check-3.ensures (first_stops c.in_err-check-4.ensures))))))

pub returns-in_err-check-5-clause-judged : goal.returns-in_err-check-5-clause-judged
unfolding header header_rows
returns-in_err-check-5-clause-judged c =
    pass (le-leb 6 _ (omega arith)) (rw (← c.from_one.ensures) (raised c.from_residual-in_err-check-5.ensures.1 (first_passes c.in_ok-check.ensures (first_passes c.in_ok-check-2.ensures (first_passes c.in_ok-check-3.ensures (first_passes c.in_ok-check-4.ensures (first_stops c.in_err-check-5.ensures)))))))

pub returns-in_err-check-6-clause-judged : goal.returns-in_err-check-6-clause-judged
unfolding header header_rows
returns-in_err-check-6-clause-judged c =
    pass (le-leb 6 _ (omega arith)) (rw (← c.from_one.ensures, ← c.from_one-2.ensures) (raised c.from_residual-in_err-check-6.ensures.1 (first_passes c.in_ok-check.ensures (first_passes c.in_ok-check-2.ensures (first_passes c.in_ok-check-3.ensures (first_passes c.in_ok-check-4.ensures (first_passes c.in_ok-check-5.ensures (first_stops c.in_err-check-6.ensures))))))))

pub returns-clause-judged : goal.returns-clause-judged
unfolding header header_rows
returns-clause-judged c =
    pass (le-leb 6 _ (omega arith)) (rw (← c.from_one.ensures, ← c.from_one-2.ensures) (first_passes c.in_ok-check.ensures (first_passes c.in_ok-check-2.ensures (first_passes c.in_ok-check-3.ensures (first_passes c.in_ok-check-4.ensures (first_passes c.in_ok-check-5.ensures (first_passes c.in_ok-check-6.ensures done)))))))

pub returns-clause-header : goal.returns-clause-header
unfolding header
returns-clause-header c =
    let s = c.args.script.now in
    let mode : mode_number c.from.result ≡ get_or s 3 0 = ap mode_number c.from.ensures ∙ mode-number _ (leb-true _ max_mode (accepted_hold _ c.in_ok-check-4.ensures).0) in
    let phase : phase_number c.from-2.result ≡ get_or s 4 0 = ap phase_number c.from-2.ensures ∙ phase-number _ (leb-true _ max_phase (accepted_hold _ c.in_ok-check-5.ensures).0) in
    rw (mode, phase)
