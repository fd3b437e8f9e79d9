-- The book's tests as facts: of all members, of some member, and of literals in a row.
use Rattle.std.specs.Prelude.{◌≡◌, Bool, true, false, ◌&&◌, ◌||◌, ℕ, zero, suc, ◌*◌, ◌≤◌, ◌<◌, length, get_or, leb, ltb, eqb}
use Rattle.std.proofs.Math.Path.{refl}
use Rattle.std.proofs.Common.{sym, ap, subst, arith, eqb→eq, ltb→lt, lt→ltb, leb→le, le→leb}
use mathlib.Core.List.Memᴰ.{head as here}
use mathlib.Core.List.Memᴰ.{not-nil}
use mathlib.Core.List.Memᴰ.{tail as there}
use mathlib.Core.List.{List, [], ◌∷◌}
use Rattle.std.proofs.Math.Dec.{T, eqb_refl}
use Rattle.model.specs.Lit.{var, sign, neg}
use Rattle.model.specs.Book.{all, any, has, holds, in_range_of, same_literals, is_row}
use Rattle.lawbase.specs.Basics.{◌∈◌, Every, every_nil, every_cons}

pub both : (a b : Bool) → T (a && b) → T a × T b
both true b h = (tt, h)
both false b h = absurd h

pub and : (a b : Bool) → T a → T b → T (a && b)
and true b x y = y
and false b x y = absurd x

module _ {A : Type 0} (p : A → Bool) where
  pub all_every : (xs : List A) → T (all p xs) → Every (λ x. T (p x)) xs
  unfolding all
  all_every [] h = every_nil (λ x. T (p x))
  all_every (x ∷ xs) h =
      let b = both (p x) (all p xs) h in
      every_cons (λ y. T (p y)) b.0 (all_every xs b.1)

  pub every_all : (xs : List A) → Every (λ x. T (p x)) xs → T (all p xs)
  unfolding all
  every_all [] h = tt
  every_all (x ∷ xs) h = and (p x) (all p xs) (h x (here refl)) (every_all xs (λ a i. h a (there i)))

  first_or : (x : A) (xs : List A) (b : Bool) → p x ≡ b → T (b || any p xs) → (T (any p xs) → (a : A) × (a ∈ xs) × T (p a)) → (a : A) × (a ∈ (x ∷ xs)) × T (p a)
  first_or x xs true e h r = (x, here refl, subst T (sym e) tt)
  first_or x xs false e h r =
      let k = r h in
      (k.0, there k.1, k.2)

  pub any_some : (xs : List A) → T (any p xs) → (a : A) × (a ∈ xs) × T (p a)
  unfolding any
  any_some [] h = absurd h
  any_some (x ∷ xs) h = first_or x xs (p x) refl h (any_some xs)

  or_right : (a b : Bool) → T b → T (a || b)
  or_right true b h = tt
  or_right false b h = h

  or_left : (a b : Bool) → T a → T (a || b)
  or_left true b h = tt
  or_left false b h = absurd h

  pub some_any : {a : A} {xs : List A} → a ∈ xs → T (p a) → T (any p xs)
  unfolding any
  some_any (here {x = x} {xs = xs} e) h = or_left (p x) (any p xs) (subst (λ y. T (p y)) e h)
  some_any (there {x = x} {xs = xs} i) h = or_right (p x) (any p xs) (some_any i h)

pub has_in : (ls : List ℕ) (l : ℕ) → T (has ls l) → l ∈ ls
unfolding has
has_in ls l h =
    let k = any_some (eqb l) ls h in
    subst (λ x. x ∈ ls) (sym (eqb→eq l k.0 k.2)) k.1

pub in_has : (ls : List ℕ) (l : ℕ) → l ∈ ls → T (has ls l)
unfolding has
in_has ls l i = some_any (eqb l) i (eqb_refl l)

-- ---- a literal in a row

pub holds_eq : (row : List ℕ) (l : ℕ) → T (holds row l) → get_or row (var l) 2 ≡ sign l
unfolding holds
holds_eq row l h = eqb→eq (get_or row (var l) 2) (sign l) h

pub eq_holds : (row : List ℕ) (l : ℕ) → get_or row (var l) 2 ≡ sign l → T (holds row l)
unfolding holds
eq_holds row l e = subst (λ x. T (eqb x (sign l))) (sym e) (eqb_refl (sign l))

-- a literal and its negation are not both true
pub not_both : (row : List ℕ) (l : ℕ) → T (holds row l) → T (holds row (neg l)) → ⊥
not_both row l h k =
    let v : var (neg l) ≡ var l = omega arith in
    let e = holds_eq row l h in
    let f : get_or row (var l) 2 ≡ sign (neg l) = rw v at (holds_eq row (neg l) k) in
    omega arith
