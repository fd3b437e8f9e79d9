-- The literal of the highest level behind the first one, and its change of places with the second.
use Rattle.std.specs.Prelude.{ℕ, zero, suc, ◌+◌, ◌-◌, ◌≤◌, ◌<◌, ◌≡◌, length, get_or, set, take, drop}
use Rattle.std.proofs.Common.{arith, add-one, ap, ◌∙◌, subst, length-set, lt-ltb, le-ltb, drop-cons, drop_of_length-le}
use Rattle.std.proofs.Math.Path.{refl, sym}
use mathlib.Core.List.{List, [], ◌∷◌, ◌++◌}
use Rattle.lawbase.specs.Basics.{split, less?}
use Rattle.model.specs.Lit.{var}
use Rattle.model.specs.State.{VarState, level_lit}
use Rattle.model.specs.Analyze.{highest, highest_first, backtrack_level}
use Rattle.trail.specs.View.{Assignment, LitsOf}
use Rattle.scratch.specs.Row.{Row, exchanged}

-- the place, from 0, of the literal on the highest level, the first one on a tie
unfoldable pub highest_place : VarState → List ℕ → ℕ
highest_place vs [] = 0
highest_place vs (l ∷ ls) = highest vs 0 (level_lit vs l) 1 ls

-- a literal behind the first is of a variable
pub place-lit : (n : ℕ) (b : List ℕ) (i : ℕ) → LitsOf n (drop 1 b) → 1 ≤ i → i < length b → var (get_or b i 0) < n
place-lit n [] i k f g = absurd (omega arith)
place-lit n (x ∷ b) zero k f g = absurd (omega arith)
place-lit n (x ∷ b) (suc i) k f g = k i (omega arith)

-- best is the highest of the literals b before place i, but the first
pub record Ranking (vs : VarState) (b : List ℕ) (best i : ℕ) : Type 0 where
  pub low : 1 ≤ best
  pub under : best < i
  pub inside : i ≤ length b
  pub rest : highest vs (best - 1) (level_lit vs (get_or b best 0)) (i - 1) (drop i b) ≡ highest_place vs (drop 1 b)

highest_more : (vs : VarState) (best level i l : ℕ) (ls : List ℕ) → level < level_lit vs l → highest vs best level i (l ∷ ls) ≡ highest vs i (level_lit vs l) (suc i) ls
unfolding highest
highest_more vs best level i l ls h = rw (lt-ltb level (level_lit vs l) h, highest)

highest_same : (vs : VarState) (best level i l : ℕ) (ls : List ℕ) → level_lit vs l ≤ level → highest vs best level i (l ∷ ls) ≡ highest vs best level (suc i) ls
unfolding highest
highest_same vs best level i l ls h = rw (le-ltb level (level_lit vs l) h, highest)

highest_end : (vs : VarState) (best level i : ℕ) → highest vs best level i [] ≡ best
unfolding highest
highest_end vs best level i = refl

module _ {vs : VarState} {b : List ℕ} where
  pub ranking_starts : 2 ≤ length b → Ranking vs b 1 2
  unfolding highest_place
  ranking_starts h =
      record { low = omega arith; under = omega arith; inside = h; rest = sym (ap (highest_place vs) (drop-cons b 1 0 (omega arith))) }

  module _ {best i : ℕ} (r : Ranking vs b best i) where
    module _ (h : i < length b) where
      unrolled : highest vs (best - 1) (level_lit vs (get_or b best 0)) (i - 1) (get_or b i 0 ∷ drop (suc i) b) ≡ highest_place vs (drop 1 b)
      unrolled = rw (← drop-cons b i 0 h) r.rest

      next : suc (i - 1) ≡ i
      next = omega (arith, r.under)

      last : (i + 1) - 1 ≡ i
      last = omega arith

      -- the one at i is higher
      pub ranking_more : level_lit vs (get_or b best 0) < level_lit vs (get_or b i 0) → Ranking vs b i (i + 1)
      ranking_more g =
          record {
            low = omega (arith, r.under);
            under = omega arith;
            inside = omega arith;
            rest = rw (last, add-one i) (rw next at (sym (highest_more vs (best - 1) (level_lit vs (get_or b best 0)) (i - 1) (get_or b i 0) (drop (suc i) b) g)) ∙ unrolled);
          }

      pub ranking_same : level_lit vs (get_or b i 0) ≤ level_lit vs (get_or b best 0) → Ranking vs b best (i + 1)
      ranking_same g =
          record {
            low = r.low;
            under = omega (arith, r.under);
            inside = omega arith;
            rest = rw (last, add-one i) (rw next at (sym (highest_same vs (best - 1) (level_lit vs (get_or b best 0)) (i - 1) (get_or b i 0) (drop (suc i) b) g)) ∙ unrolled);
          }

    pub ranking_ends : length b ≤ i → best ≡ 1 + highest_place vs (drop 1 b)
    ranking_ends h =
        let q : best - 1 ≡ highest_place vs (drop 1 b) = sym (highest_end vs (best - 1) (level_lit vs (get_or b best 0)) (i - 1)) ∙ rw (← drop_of_length-le b h) r.rest in
        omega (arith, r.low)

-- it is one of the places
highest-bound : (vs : VarState) (ls : List ℕ) (best level i : ℕ) → best < i → highest vs best level i ls < i + length ls
unfolding highest
highest-bound vs [] best level i h = omega arith
highest-bound vs (l ∷ ls) best level i h = split (less? level (level_lit vs l))
    (λ g. rw (lt-ltb level (level_lit vs l) g, highest) (omega (arith, highest-bound vs ls i (level_lit vs l) (suc i) (omega arith))))
    (λ g. rw (le-ltb level (level_lit vs l) g, highest) (omega (arith, highest-bound vs ls best level (suc i) (omega arith))))

pub place_in : (vs : VarState) (b : List ℕ) → 2 ≤ length b → 1 + highest_place vs (drop 1 b) < length b
unfolding highest_place
place_in vs [] h = absurd (omega arith)
place_in vs (x ∷ []) h = absurd (omega arith)
place_in vs (x ∷ l ∷ ls) h = omega (arith, highest-bound vs ls 0 (level_lit vs l) 1 (omega arith))

-- ---- the change of places

-- the cells, where the list ls begins in the second one
abbrev pub swapped : VarState → List ℕ → List ℕ → List ℕ
swapped vs [] cells = cells
swapped vs (l ∷ ls) cells = let i = highest vs 0 (level_lit vs l) 1 ls in set (set cells 1 (get_or (l ∷ ls) i 0)) (suc i) l

-- the buffer with the highest literal second
abbrev pub with_second : VarState → Row → Row
with_second vs b = record { items = take 1 b.items ++ highest_first vs (drop 1 b.items); cells = swapped vs (drop 1 b.items) b.cells }

-- and its level
pub record Seconded (t : Assignment) (b b' : Row) (r : ℕ) : Type 0 where
  pub buffer : b' ≡ with_second t.vars b
  pub level : r ≡ backtrack_level t.vars (highest_first t.vars (drop 1 b.items))

module _ (t : Assignment) (cells : List ℕ) where
  few : (l : List ℕ) → length l < 2 → Seconded t (record { items = l; cells = cells }) (record { items = l; cells = cells }) 0
  unfolding highest_first backtrack_level
  few [] h = record { buffer = refl; level = refl }
  few (x ∷ []) h = record { buffer = refl; level = refl }
  few (x ∷ y ∷ ls) h = absurd (omega arith)

  -- what changes places with the first one is first
  first_now : (ls : List ℕ) (i : ℕ) (l q : ℕ) → i < suc (length ls) → q ≡ get_or (l ∷ ls) i 0 → get_or (set (set (l ∷ ls) 0 q) i l) 0 0 ≡ q
  first_now ls zero l q h e = sym e
  first_now ls (suc i) l q h e = refl

  level_form : (vs : VarState) (ls : List ℕ) → 0 < length ls → backtrack_level vs ls ≡ level_lit vs (get_or ls 0 0)
  unfolding backtrack_level
  level_form vs [] h = absurd (omega arith)
  level_form vs (l ∷ ls) h = refl

  best_is : (x y : ℕ) (ls : List ℕ) (best : ℕ) → best ≡ 1 + highest_place t.vars (drop 1 (x ∷ y ∷ ls)) → best ≡ suc (highest t.vars 0 (level_lit t.vars y) 1 ls)
  unfolding highest_place
  best_is x y ls best e = omega (arith, e)

  many : (l : List ℕ) → 2 ≤ length l → (best : ℕ) → best ≡ 1 + highest_place t.vars (drop 1 l)
      → Seconded t (record { items = l; cells = cells }) (exchanged (record { items = l; cells = cells }) 1 best) (level_lit t.vars (get_or l best 0))
  unfolding highest_first highest_place
  many [] h best e = absurd (omega arith)
  many (x ∷ []) h best e = absurd (omega arith)
  many (x ∷ y ∷ ls) h best e =
      let i = highest t.vars 0 (level_lit t.vars y) 1 ls in
      let b : i < suc (length ls) = omega (arith, highest-bound t.vars ls 0 (level_lit t.vars y) 1 (omega arith)) in
      subst
      (λ (k : ℕ). Seconded t (record { items = x ∷ y ∷ ls; cells = cells }) (exchanged (record { items = x ∷ y ∷ ls; cells = cells }) 1 k)
      (level_lit t.vars (get_or (x ∷ y ∷ ls) k 0)))
      (sym (best_is x y ls best e))
      (record {
        buffer = refl;
        level =
            ap (level_lit t.vars) (sym (first_now ls i y (get_or (y ∷ ls) i 0) b refl))
            ∙ sym (level_form t.vars (set (set (y ∷ ls) 0 (get_or (y ∷ ls) i 0)) i y) (rw length-set (rw length-set (omega arith))));
      })

module _ (t : Assignment) (b : Row) where
  pub seconded-unit : length b.items < 2 → Seconded t b b 0
  seconded-unit g = few t b.cells b.items g

  pub seconded_swap : 2 ≤ length b.items → (best : ℕ) → best ≡ 1 + highest_place t.vars (drop 1 b.items)
      → Seconded t b (exchanged b 1 best) (level_lit t.vars (get_or b.items best 0))
  seconded_swap g best e = many t b.cells b.items g best e
