-- The trail in two parts: what stands on the levels up to k, and what stands above.
use Rattle.std.specs.Prelude.{◌≡◌, ◌⊎◌, List, [], ◌∷◌, ◌++◌, reverse, ℕ, ◌≤◌, ◌<◌, length, take, drop}
use Rattle.std.proofs.Common.{ap, sym, ◌∙◌, arith, length-append, length-take, take-append-drop}
use mathlib.Core.List.Memᴰ.{append_cases}
use mathlib.Core.List.Memᴰ.{head as here}
use mathlib.Core.List.Memᴰ.{not-nil}
use mathlib.Core.List.Memᴰ.{tail as there}
use Rattle.std.proofs.lemmas.List.{reverse-append, length-reverse}
use Rattle.model.specs.State.{VarState, decision_level, level_lit}
use Rattle.model.specs.Trail.{level_end}
use Rattle.lawbase.specs.Basics.{◌∈◌, Every, split, less?}
use Rattle.lawbase.specs.WellFormed.{Entries, Assignment}
use Rattle.learning.proofs.Trail.{above_in, entries_behind, in_reverse, from_reverse}
use Rattle.learning.specs.Parts.{upper, base}

above_at : (n : ℕ) (cs : List (List ℕ)) (vs : VarState) (u z : List ℕ) → Entries n cs vs (u ++ z) → (k : ℕ) → k < decision_level vs
    → level_end vs k ≤ length z
    → Every (λ q. k < level_lit vs q) u
above_at n cs vs [] z w k h e q i = absurd (not-nil i)
above_at n cs vs (x ∷ u) z w k h e q (here c) = rw c (w.0.below k h (omega (arith, length-append u z)))
above_at n cs vs (x ∷ u) z w k h e q (there i) = above_at n cs vs u z w.1 k h e q i

-- e is where on the trail the literals above level k start
module _ (n : ℕ) (cs : List (List ℕ)) (vs : VarState) (a : Assignment n cs vs) (k : ℕ) (h : k < decision_level vs) (e : ℕ) (is : level_end vs k ≡ e) where
  pub parts : reverse vs.trail ≡ upper vs e ++ base vs e
  parts = ap reverse (sym (take-append-drop e vs.trail)) ∙ reverse-append (take e vs.trail) (drop e vs.trail)

  pub parts_entries : Entries n cs vs (upper vs e ++ base vs e)
  parts_entries = rw parts at a.entries

  pub parts_on : Every (λ q. q ∈ vs.trail) (upper vs e ++ base vs e)
  parts_on q j = from_reverse vs.trail (rw parts j)

  pub part_of : (p : ℕ) → p ∈ vs.trail → (p ∈ upper vs e) ⊎ (p ∈ base vs e)
  part_of p i = append_cases (upper vs e) (rw parts at (in_reverse vs.trail i))

  base-length : length (base vs e) ≡ e
  base-length = omega (arith, length-reverse (take e vs.trail), length-take e vs.trail, a.limits k h)

  pub upper_level : Every (λ q. k < level_lit vs q) (upper vs e)
  upper_level = above_at n cs vs (upper vs e) (base vs e) parts_entries k h (omega (arith, base-length))

  pub base_level : Every (λ q. level_lit vs q ≤ k) (base vs e)
  base_level q j = split (less? k (level_lit vs q))
      (λ g. absurd (omega (arith, above_in n cs vs (base vs e) (entries_behind n cs vs (upper vs e) (base vs e) parts_entries) q j k g, base-length)))
      (λ g. g)
