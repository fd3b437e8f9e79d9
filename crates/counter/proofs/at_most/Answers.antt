use Rattle.std.proofs.Common.{ℕ, List, rules, subst, Ok}
use Rattle.counter.specs.Answers.{Writes}
use Rattle.counter.proofs.Answers.{accepted_writable, writes_raised, writes_written}
use Rattle.counter.proofs.at_most.Goals as goal

pub returns-in_err-judge : goal.returns-in_err-judge
returns-in_err-judge c =
    let a = c.args in
    writes_raised a.v a.literals.now a.k a.first a.out.now _ c.from_residual.ensures.1 c.in_err-judge.ensures

pub write-requires : goal.write-requires
write-requires c =
    let a = c.args in
    let w = accepted_writable a.v a.literals.now a.k a.first a.out.now c.in_ok-judge.ensures in
    record { helpers = w.helpers; fits = w.fits }

pub returns : goal.returns
returns c =
    let a = c.args in
    let w = c.write.new.w in
    subst (λ (out : List ℕ). Writes a.v a.literals.now a.k a.first a.out.now (Ok w.at) out) (search rules)
    (writes_written a.v a.literals.now a.k a.first a.out.now c.in_ok-judge.ensures _ w.out.now c.write.ensures.wrote)
