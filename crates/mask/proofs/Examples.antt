-- A clause with levels 1 and 34, and a trace that meets level 33, whose bit is level 1's.
use Rattle.std.specs.Prelude.{ℕ, ◌≡◌, refl, ◌≢◌, true, List, [], ◌∷◌}
use mathlib.Core.List.Memᴰ.{head as here}
use mathlib.Core.List.Memᴰ.{not-nil}
use mathlib.Core.List.Memᴰ.{tail as there}
use Rattle.std.proofs.Common.{arith}
use Rattle.model.specs.Lit.{no_reason}
use Rattle.model.specs.State.{Store, VarState}
use Rattle.model.specs.Minimise.{abstract_levels, push_reason, lit_redundant, drop_redundant}
use Rattle.lawbase.specs.Basics.{◌∈◌, every_one}
use Rattle.mask.specs.Unmasked.{push_reason_unmasked, lit_redundant_unmasked, drop_redundant_unmasked}
use Rattle.mask.specs.Traceable.{Traced, at_zero, at_end, through, Other, Traceable}
use Rattle.mask.proofs.Bits.{passes}

-- x0 is decided at level 1, x2 at level 33, x5 at level 34; x1, x3 and x6 are implied by these clauses in turn; x4 is unset
abbrev st : Store
st = record { clauses = (2 ∷ 1 ∷ []) ∷ (6 ∷ 5 ∷ []) ∷ (12 ∷ 11 ∷ 7 ∷ []) ∷ []; watches = [] }

abbrev vs : VarState
vs =
    record {
      values = 0 ∷ 0 ∷ 0 ∷ 0 ∷ 2 ∷ 0 ∷ 0 ∷ [];
      levels = 1 ∷ 1 ∷ 33 ∷ 33 ∷ 0 ∷ 34 ∷ 34 ∷ [];
      reasons = no_reason ∷ 0 ∷ no_reason ∷ 1 ∷ no_reason ∷ no_reason ∷ 2 ∷ [];
      trail = 0 ∷ 2 ∷ 4 ∷ 6 ∷ 10 ∷ 12 ∷ [];
      limits = [];
    }

-- the negations of x0, x1, x5, x6, and their marks
abbrev clause : List ℕ
clause = 1 ∷ 3 ∷ 11 ∷ 13 ∷ []

abbrev seen : List ℕ
seen = 1 ∷ 1 ∷ 0 ∷ 0 ∷ 0 ∷ 1 ∷ 1 ∷ []

-- the mask lets level 33 pass, of which the clause has no literal
level_33_passes : passes vs (abstract_levels vs 0 clause) 7 ≡ true
unfolding abstract_levels
level_33_passes = refl

-- it does not show
with_the_mask : drop_redundant st vs (abstract_levels vs 0 clause) [] clause seen ≡ 1 ∷ 11 ∷ 13 ∷ []
unfolding abstract_levels push_reason lit_redundant drop_redundant
with_the_mask = refl

without_it : drop_redundant_unmasked st vs [] clause seen ≡ 1 ∷ 11 ∷ 13 ∷ []
unfolding push_reason_unmasked lit_redundant_unmasked drop_redundant_unmasked
without_it = refl

-- the negation of x1 is traced to that of x0
goes : Traceable st vs clause 3
goes = through {q = 3} (λ e. omega (arith, e)) (every_one (Traced st vs (Other clause 3)) (at_end {q = 1} (here refl, λ e. omega (arith, e))))

-- that of x6 is not: its trace comes to x2, a decision outside the clause
outside : (q : ℕ) → q ≢ 1 → q ≢ 3 → q ≢ 11 → q ≢ 13 → q ∈ clause → ⊥
outside q a b c d (here e) = a e
outside q a b c d (there (here e)) = b e
outside q a b c d (there (there (here e))) = c e
outside q a b c d (there (there (there (here e)))) = d e
outside q a b c d (there (there (there (there i)))) = not-nil i

at_x2 : Traced st vs (Other clause 13) 5 → ⊥
at_x2 (at_zero e) = omega (arith, e)
at_x2 (at_end b) = outside 5 (λ e. omega (arith, e)) (λ e. omega (arith, e)) (λ e. omega (arith, e)) (λ e. omega (arith, e)) b.0
at_x2 (through c f) = c refl

at_x3 : Traced st vs (Other clause 13) 7 → ⊥
at_x3 (at_zero e) = omega (arith, e)
at_x3 (at_end b) = outside 7 (λ e. omega (arith, e)) (λ e. omega (arith, e)) (λ e. omega (arith, e)) (λ e. omega (arith, e)) b.0
at_x3 (through c f) = at_x2 (f 5 (here refl))

stays : Traceable st vs clause 13 → ⊥
stays (at_zero e) = omega (arith, e)
stays (at_end b) = b.1 refl
stays (through c f) = at_x3 (f 7 (there (here refl)))
