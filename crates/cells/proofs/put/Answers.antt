use Rattle.std.specs.Prelude.{◌+◌, ◌≡◌, length, get_or, set}
use Rattle.std.proofs.Common.{arith, refl, ap, ◌∙◌, add-one, length-set}
use Rattle.std.proofs.Math.Seq.{paste, paste-zero, paste-suc}
use Rattle.cells.proofs.put.Goals as goal

pub loop-i-init : goal.loop-i-init
loop-i-init c = (omega arith, refl, paste-zero c.args.out.now c.args.at c.args.from.now)

pub loop-i-preserved : goal.loop-i-preserved
loop-i-preserved c =
    let l = c.loop-i in
    let a = c.args in
    let same = ap (λ w. set w (a.at + l.i) (get_or a.from.now l.i 0)) l.invariant.2 in
    let e = same ∙ paste-suc a.out.now a.at a.from.now l.i 0 (omega arith) (omega arith) in
    (omega arith, length-set l.out (a.at + l.i) (get_or a.from.now l.i 0) ∙ l.invariant.1, rw add-one e)

pub returns : goal.returns
returns c =
    let l = c.loop-i in
    let a = c.args in
    l.invariant.2 ∙ ap (λ k. paste a.out.now a.at a.from.now k) (let e : l.i ≡ length a.from.now = omega arith in e)
