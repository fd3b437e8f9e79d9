use Rattle.std.specs.Prelude.{ℕ, ◌≡◌, List, ◌++◌, length, take, drop, reverse}
use Rattle.std.proofs.Common.{sym, ap, ◌∙◌, subst}
use Rattle.std.specs.List.Sorted.{IsPermutation}
use Rattle.std.proofs.Math.Seq.{take-append_seam}
use Rattle.std.proofs.lemmas.List.{length-reverse}
use Rattle.std.proofs.lemmas.List.Sorted.{IsPermutation-reverse}
use Rattle.scratch.proofs.lay.Goals as goal

-- a list turned round stands at the front
turned : (p d : List ℕ) → take (length p) (reverse p ++ drop (length p) d) ≡ reverse p
turned p d = ap (λ k. take k (reverse p ++ drop (length p) d)) (sym (length-reverse p)) ∙ take-append_seam (reverse p) (drop (length p) d)

pub returns-clause-laid : goal.returns-clause-laid
returns-clause-laid c =
    let p = c.args.part.now in
    rw c.put_turned.ensures (subst (λ (xs : List ℕ). IsPermutation p xs) (sym (turned p c.args.cells.now)) (IsPermutation-reverse p))
