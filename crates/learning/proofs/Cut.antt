-- The law of cuts: what is traced back to literals that S holds, S holds.
use Rattle.std.specs.Prelude.{◌≡◌, refl, ◌⊎◌, Bool, true, List, [], ◌∷◌, ℕ}
use mathlib.Core.List.Memᴰ.{head as here}
use mathlib.Core.List.Memᴰ.{not-nil}
use mathlib.Core.List.Memᴰ.{tail as there}
use Rattle.model.specs.Lit.{neg}
use Rattle.model.specs.State.{Store, VarState}
use Rattle.model.specs.Minimise.{is_seen}
use Rattle.lawbase.specs.Basics.{◌∈◌, Every, shrink, split, var-neg}
use Rattle.lawbase.specs.WellFormed.{Entry, Entries}
use Rattle.learning.proofs.Trail.{caused}
use Rattle.learning.specs.FirstUip.{Knows}
use Rattle.learning.proofs.FirstUip.{fixed_or, follows}
use Rattle.learning.specs.Trace.{Done}

-- M marks literals of the trail. If S holds each marked one, or its reason's other literals are at level 0 or negations of marked ones, then S holds
-- every marked one.
module _ (S : ℕ → Bool) (n : ℕ) (st : Store) (vs : VarState) (k : Knows S st vs) (m : List ℕ) where
  cut_head : (p : ℕ) (t : List ℕ) → Every (λ q. q ∈ vs.trail) t → Entry n st.clauses vs p t → (Every (λ q. is_seen m q ≡ true → S q ≡ true) t)
      → Done st vs m p → S p ≡ true
  cut_head p t on e rec d =
      let i = caused e.grounds d.caused in
      follows S st vs k p t i (λ q j.
      let f = i.false_rest q j in
      fixed_or S st vs k q (on (neg q) f) (λ z. rec (neg q) f (rw var-neg (d.covered q j z))))

  pub cut : (t : List ℕ) → Every (λ q. q ∈ vs.trail) t → Entries n st.clauses vs t
      → Every (λ p. is_seen m p ≡ true → (S p ≡ true) ⊎ Done st vs m p) t → Every (λ p. is_seen m p ≡ true → S p ≡ true) t
  cut [] on e h p i s = absurd (not-nil i)
  cut (x ∷ t) on e h p (there i) s = cut t (shrink on) e.1 (shrink h) p i s
  cut (x ∷ t) on e h p (here a) s = rw a
      (split (h x (here refl) (rw a at s)) (λ z. z) (cut_head x t (shrink on) e.0 (cut t (shrink on) e.1 (shrink h))))
