use Rattle.std.specs.Prelude.{◌≡◌, ◌-◌, length, get_or, set, reverse, drop, ◌++◌}
use Rattle.std.proofs.Common.{arith, refl, sym, ap, ◌∙◌, add-one, length-set}
use Rattle.std.proofs.Math.Seq.{paste, paste-zero}
use Rattle.std.proofs.lemmas.List.{get_or-reverse, length-reverse}
use Rattle.scratch.specs.Row.{front_more, front_all}
use Rattle.scratch.proofs.put_turned.Goals as goal

pub loop-i-init : goal.loop-i-init
loop-i-init c = (omega arith, refl, paste-zero c.args.cells.now 0 (reverse c.args.part.now))

pub loop-i-preserved : goal.loop-i-preserved
loop-i-preserved c =
    let l = c.loop-i in
    let p = c.args.part.now in
    let d = c.args.cells.now in
    let x = get_or p (length p - 1 - l.i) 0 in
    let at : get_or (reverse p) l.i 0 ≡ x = get_or-reverse p l.i 0 (omega arith) in
    let e = front_more d (reverse p) l.i (omega arith) (omega (arith, length-reverse p)) in
    let same = ap (λ w. set w l.i x) l.invariant.2 ∙ ap (set (paste d 0 (reverse p) l.i) l.i) (sym at) in
    (omega arith, length-set l.cells l.i x ∙ l.invariant.1, rw add-one (same ∙ e))

pub returns : goal.returns
returns c =
    let l = c.loop-i in
    let p = c.args.part.now in
    let d = c.args.cells.now in
    let n : l.i ≡ length (reverse p) = omega (arith, length-reverse p) in
    l.invariant.2 ∙ ap (paste d 0 (reverse p)) n ∙ front_all d (reverse p) ∙ ap (λ k. reverse p ++ drop k d) (length-reverse p)
