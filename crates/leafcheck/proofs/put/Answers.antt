use Rattle.std.proofs.Common.{refl, ◌∙◌, ◌≡◌, ℕ, Bool, true, false, List, length, set, length-set}
use Rattle.model.specs.Final.{mem}
use Rattle.litset.specs.View.{new_cell}
use Rattle.leafcheck.proofs.put.Goals as goal

chosen : (b : Bool) (xs ys : List ℕ) → length ys ≡ length xs → length {A = ℕ} (elim b [ true ↦ xs | false ↦ ys ]) ≡ length xs
chosen true xs ys e = refl
chosen false xs ys e = e

-- there are as many cells as before
same_cells : (items : List ℕ) (l : ℕ) (cells : List ℕ) (i x : ℕ) → length (new_cell items l cells i x) ≡ length cells
unfolding new_cell
same_cells items l cells i x = chosen (mem l items) cells (set cells i x) (length-set cells i x)

pub returns-then-l-lt6 : goal.returns-then-l-lt6
returns-then-l-lt6 c =
    let s = c.args.set.now in
    let l = c.args.l in
    rw c.insert.ensures
    (same_cells s.items l s.flag_cells l 1 ∙ c.requires.0, same_cells s.items l s.item_cells (length s.items) l ∙ c.requires.1)
