-- Membership, and what `insert` makes of it.
use Rattle.std.specs.Prelude.{ℕ, zero, suc, ◌+◌, ◌≤◌, ◌<◌, ◌≡◌, refl, ◌≢◌, Bool, true, false, List, [], ◌∷◌, ◌++◌, length, get_or}
use Rattle.std.proofs.Common.{arith, not-suc-le-zero, sym, ◌∙◌, length-append, eq-eqb, ne_eqb}
use Rattle.std.proofs.Math.Decide.{ℕ_discrete}
use Rattle.model.specs.Final.{mem, insert}

pub mem_nil : (x : ℕ) → mem x [] ≡ false
unfolding mem
mem_nil x = refl

pub mem_head : (x y : ℕ) (ys : List ℕ) → x ≡ y → mem x (y ∷ ys) ≡ true
unfolding mem
mem_head x y ys e = rw (eq-eqb x y e)

pub mem-tail : (x y : ℕ) (ys : List ℕ) → x ≢ y → mem x (y ∷ ys) ≡ mem x ys
unfolding mem
mem-tail x y ys e = rw (ne_eqb x y e)

pub mem_last : (x : ℕ) (ys : List ℕ) → mem x (ys ++ (x ∷ [])) ≡ true
mem_last x [] = mem_head x x [] refl
mem_last x (y ∷ ys) = go (mem_last x ys) (ℕ_discrete x y)
  where
    go : mem x (ys ++ (x ∷ [])) ≡ true → Dec (x ≡ y) → mem x (y ∷ (ys ++ (x ∷ []))) ≡ true
    go ih (yes e) = mem_head x y (ys ++ (x ∷ [])) e
    go ih (no e) = mem-tail x y (ys ++ (x ∷ [])) e ∙ ih

pub mem_other : (x z : ℕ) (ys : List ℕ) → x ≢ z → mem x (ys ++ (z ∷ [])) ≡ mem x ys
mem_other x z [] n = mem-tail x z [] n
mem_other x z (y ∷ ys) n = go (mem_other x z ys n) (ℕ_discrete x y)
  where
    go : mem x (ys ++ (z ∷ [])) ≡ mem x ys → Dec (x ≡ y) → mem x (y ∷ (ys ++ (z ∷ []))) ≡ mem x (y ∷ ys)
    go ih (yes e) = mem_head x y (ys ++ (z ∷ [])) e ∙ sym (mem_head x y ys e)
    go ih (no e) = mem-tail x y (ys ++ (z ∷ [])) e ∙ ih ∙ sym (mem-tail x y ys e)

pub mem_at : (ys : List ℕ) (k : ℕ) → k < length ys → mem (get_or ys k 0) ys ≡ true
mem_at [] k h = absurd (not-suc-le-zero h)
mem_at (y ∷ ys) zero h = mem_head y y ys refl
mem_at (y ∷ ys) (suc k) h = go (mem_at ys k (omega arith)) (ℕ_discrete (get_or ys k 0) y)
  where
    go : mem (get_or ys k 0) ys ≡ true → Dec (get_or ys k 0 ≡ y) → mem (get_or ys k 0) (y ∷ ys) ≡ true
    go ih (yes e) = mem_head (get_or ys k 0) y ys e
    go ih (no e) = mem-tail (get_or ys k 0) y ys e ∙ ih

pub insert_old : (ys : List ℕ) (x : ℕ) → mem x ys ≡ true → insert ys x ≡ ys
unfolding insert
insert_old ys x h = rw (h, insert)

pub insert_new : (ys : List ℕ) (x : ℕ) → mem x ys ≡ false → insert ys x ≡ ys ++ (x ∷ [])
unfolding insert
insert_new ys x h = rw (h, insert)

pub insert-length : (ys : List ℕ) (x : ℕ) → length (insert ys x) ≤ length ys + 1
insert-length ys x = go (mem x ys) refl
  where
    go : (b : Bool) → mem x ys ≡ b → length (insert ys x) ≤ length ys + 1
    go true e = rw (insert_old ys x e) (omega arith)
    go false e = rw (insert_new ys x e, length-append ys (x ∷ [])) (omega arith)
