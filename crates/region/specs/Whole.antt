-- A list is known by its regions, and by what stands behind them.
use Rattle.std.specs.Prelude.{ℕ, ◌≡◌, List, [], ◌∷◌, ◌++◌, drop, get_or, length}
use Rattle.std.proofs.Common.{sym, ap, ap₂, ◌∙◌, take-append-drop, drop-drop}
use Rattle.std.proofs.Math.Seq.{drop-length}
use Rattle.region.specs.Split.{split, total}

-- two lists with the same regions, and the same cells behind them, are the same
pub known : (ns : List ℕ) (w w' : List ℕ) → split ns w ≡ split ns w' → drop (total ns) w ≡ drop (total ns) w' → w ≡ w'
known [] w w' e r = r
known (n ∷ ns) w w' e r =
    let rest : drop n w ≡ drop n w' = known ns (drop n w) (drop n w') (ap (drop 1) e) (drop-drop (total ns) n w ∙ r ∙ sym (drop-drop (total ns) n w')) in
    sym (take-append-drop n w) ∙ ap₂ ◌++◌ (ap (λ (ps : List (List ℕ)). get_or ps 0 []) e) rest ∙ take-append-drop n w'

-- the same of lists that are all regions
pub split_same : (ns : List ℕ) (w w' : List ℕ) → length w ≡ total ns → length w' ≡ total ns → split ns w ≡ split ns w' → w ≡ w'
split_same ns w w' l l' e =
    let none : drop (total ns) w ≡ [] = rw (← l) (drop-length w) in
    let none' : drop (total ns) w' ≡ [] = rw (← l') (drop-length w') in
    known ns w w' e (none ∙ sym none')
