-- The sort of a clause's literals, upward.
use Rattle.std.specs.Prelude.{◌≡◌, Bool, List, [], ◌∷◌, ℕ, ◌≤◌, ◌<◌}
use Rattle.std.proofs.Math.Path.{refl}
use Rattle.std.proofs.Math.Bool.{true, false}
use mathlib.Core.List.Memᴰ.{head as here}
use mathlib.Core.List.Memᴰ.{tail as there}
use Rattle.std.proofs.Common.{arith, leb-true, leb-false}
use Rattle.std.proofs.Math.Dec.{leb}
use Rattle.model.specs.Intake.{insert, sort}
use Rattle.lawbase.specs.Basics.{◌∈◌, Every, every_nil, every_cons, every_one, shrink}
use Rattle.watching.specs.Sort.{Ascending}

module _ (x y : ℕ) (ys : List ℕ) where
  -- the cases of one step of `insert`
  insert_cases : (P : List ℕ → Type 0) → (x ≤ y → P (x ∷ y ∷ ys)) → (y < x → P (y ∷ insert x ys)) → P (insert x (y ∷ ys))
  unfolding insert
  insert_cases P f g = go (leb x y) refl
    where
      go : (b : Bool) → leb x y ≡ b → P (elim b [ true ↦ x ∷ y ∷ ys | false ↦ y ∷ insert x ys ])
      go true e = f (leb-true x y e)
      go false e = g (leb-false x y e)

-- a property of x and of each of the list is one of each of the list with x
pub insert_every : (P : ℕ → Type 0) (x : ℕ) (ys : List ℕ) → P x → Every P ys → Every P (insert x ys)
unfolding insert
insert_every P x [] p h = every_one P p
insert_every P x (y ∷ ys) p h =
    insert_cases x y ys (Every P) (λ _. every_cons P p h) (λ _. every_cons P (h y (here refl)) (insert_every P x ys p (shrink h)))

pub insert_new : (x : ℕ) (ys : List ℕ) → x ∈ insert x ys
unfolding insert
insert_new x [] = here refl
insert_new x (y ∷ ys) = insert_cases x y ys (λ l. x ∈ l) (λ _. here refl) (λ _. there (insert_new x ys))

pub insert_old : (x : ℕ) (ys : List ℕ) → Every (λ z. z ∈ insert x ys) ys
insert_old x [] = every_nil (λ z. z ∈ insert x [])
insert_old x (y ∷ ys) =
    insert_cases x y ys (λ l. Every (λ z. z ∈ l) (y ∷ ys)) (λ _ z i. there i)
    (λ _. every_cons (λ z. z ∈ (y ∷ insert x ys)) (here refl) (λ z i. there (insert_old x ys z i)))

insert_ascending : (x : ℕ) (ys : List ℕ) → Ascending ys → Ascending (insert x ys)
unfolding insert
insert_ascending x [] h = (every_nil (λ y. x ≤ y), tt)
insert_ascending x (y ∷ ys) h =
    insert_cases x y ys Ascending
    (λ le. (every_cons (λ z. x ≤ z) le (λ z i. (omega (arith, le, h.0 z i))), h))
    (λ lt. (insert_every (λ z. y ≤ z) x ys (omega arith) h.0, insert_ascending x ys h.1))

pub sort_ascending : (c : List ℕ) → Ascending (sort c)
unfolding sort
sort_ascending [] = tt
sort_ascending (x ∷ xs) = insert_ascending x (sort xs) (sort_ascending xs)

-- the same literals
pub sort_every : (P : ℕ → Type 0) (c : List ℕ) → Every P c → Every P (sort c)
unfolding sort
sort_every P [] h = h
sort_every P (x ∷ xs) h = insert_every P x (sort xs) (h x (here refl)) (sort_every P xs (shrink h))

pub sort-all : (c : List ℕ) → Every (λ z. z ∈ sort c) c
unfolding sort
sort-all [] = every_nil (λ z. z ∈ sort [])
sort-all (x ∷ xs) =
    every_cons (λ z. z ∈ insert x (sort xs)) (insert_new x (sort xs)) (λ z i. insert_old x (sort xs) z (sort-all xs z i))
