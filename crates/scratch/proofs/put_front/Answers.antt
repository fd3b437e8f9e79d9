use Rattle.std.specs.Prelude.{◌≡◌, length, get_or, set}
use Rattle.std.proofs.Common.{arith, refl, ap, ◌∙◌, add-one, length-set}
use Rattle.std.proofs.Math.Seq.{paste, paste-zero}
use Rattle.scratch.specs.Row.{front_more, front_all}
use Rattle.scratch.proofs.put_front.Goals as goal

pub loop-i-init : goal.loop-i-init
loop-i-init c = (omega arith, refl, paste-zero c.args.cells.now 0 c.args.part.now)

pub loop-i-preserved : goal.loop-i-preserved
loop-i-preserved c =
    let l = c.loop-i in
    let a = c.args in
    let same = ap (λ w. set w l.i (get_or a.part.now l.i 0)) l.invariant.2 in
    (omega arith, length-set l.cells l.i (get_or a.part.now l.i 0) ∙ l.invariant.1, rw add-one (same ∙ front_more a.cells.now a.part.now l.i (omega arith) (omega arith)))

pub returns : goal.returns
returns c =
    let l = c.loop-i in
    let a = c.args in
    let n : l.i ≡ length a.part.now = omega arith in
    l.invariant.2 ∙ ap (paste a.cells.now 0 a.part.now) n ∙ front_all a.cells.now a.part.now
