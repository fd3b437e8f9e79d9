-- Literals stored one after another in a row of cells.
use Rattle.std.specs.Prelude.{ℕ, suc, ◌+◌, ◌<◌, ◌≡◌, refl, List, [], ◌∷◌, ◌++◌, length, set}
use Rattle.std.proofs.Common.{arith, ap, ◌∙◌, set-set}
use Rattle.std.proofs.lemmas.List.Edits.{sets}
use Rattle.std.proofs.lemmas.List.{set_comm}

module _ {A : Type 0} where
  pub sets_append : (b : List A) (i : ℕ) (l k : List A) → sets (sets b i l) (i + length l) k ≡ sets b i (l ++ k)
  sets_append b i [] k = ap (λ n. sets b n k) (omega arith)
  sets_append b i (a ∷ l) k = ap (λ n. sets (sets (set b i a) (suc i) l) n k) (omega arith) ∙ sets_append (set b i a) (suc i) l k

  -- a store before them
  set_before : (b : List A) (j : ℕ) (v : A) (k : ℕ) (l : List A) → j < k → set (sets b k l) j v ≡ sets (set b j v) k l
  set_before b j v k [] h = refl
  set_before b j v k (a ∷ l) h = set_before (set b k a) j v (suc k) l (omega arith) ∙ ap (λ s. sets s (suc k) l) (set_comm b k j a v (λ e. omega arith))

  -- the first one is another
  pub sets_first : (b : List A) (u v : A) (l : List A) → set (sets (set b 0 u) 1 l) 0 v ≡ sets b 0 (v ∷ l)
  sets_first b u v l = set_before (set b 0 u) 0 v 1 l (omega arith) ∙ ap (λ s. sets s 1 l) (set-set b 0 u v)
