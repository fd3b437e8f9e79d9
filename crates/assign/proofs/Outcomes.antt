-- What `assume` and `decide` come to, over all the assumptions.
use Rattle.std.specs.Prelude.{◌≡◌, refl, List, [], ◌∷◌, drop, Float}
use Prim.Native.Nat.{ℕ, ◌*◌, ◌<◌}
use Rattle.model.specs.State.{State, decision_level, with_vars}
use Rattle.model.specs.Script.{Config}
use Rattle.model.specs.Trail.{new_decision_level}
use Rattle.model.specs.Decide.{assume, decide}
use Rattle.lawbase.specs.Basics.{Every}
use Rattle.assign.proofs.Level.{level_more}
use Rattle.assign.specs.Searching.{Searching}
use Rattle.assign.specs.Decide.{Outcome}
use Rattle.assign.proofs.Decide.{assume-cons, outcome_back, passes, falls, opens, Next, nil_outcome, next}

-- ---- what it comes to

module _ {cfg : Config} {qs : List ℕ} {s : State} (r : Searching cfg qs s) where
  module _ (range : Every (λ p. p < 2 * cfg.variables) qs) (p : ℕ) (ps : List ℕ) (x : Next qs (decision_level s.vars) p ps) where
    cons-outcome : (act : List Float)
        → (Searching cfg qs (with_vars s (new_decision_level s.vars)) → drop (decision_level (new_decision_level s.vars)) qs ≡ ps
        → Outcome cfg qs (with_vars s (new_decision_level s.vars)) (assume act ps (with_vars s (new_decision_level s.vars))))
        → Outcome cfg qs s (assume act (p ∷ ps) s)
    cons-outcome act f =
        assume-cons (Outcome cfg qs s) act p ps s
        (λ t. outcome_back cfg qs s (assume act ps (with_vars s (new_decision_level s.vars))) (f (passes r range p ps x t) (rw (level_more s.vars) x.tail)))
        (λ a b. falls r range p ps x b)
        (opens r range p ps x)

pub assume-outcome : {cfg : Config} {assumptions : List ℕ} → Every (λ p. p < 2 * cfg.variables) assumptions → (act : List Float) (ps : List ℕ) {s : State}
    → Searching cfg assumptions s → drop (decision_level s.vars) assumptions ≡ ps → Outcome cfg assumptions s (assume act ps s)
assume-outcome h act [] r e = nil_outcome r act e
assume-outcome {assumptions = qs} h act (p ∷ ps) {s} r e =
    cons-outcome r h p ps (next qs (decision_level s.vars) p ps e) act (assume-outcome h act ps)

-- what `decide` comes to
pub decide-outcome : {cfg : Config} {assumptions : List ℕ} → Every (λ p. p < 2 * cfg.variables) assumptions → (act : List Float) {s : State}
    → Searching cfg assumptions s → Outcome cfg assumptions s (decide act assumptions s)
unfolding decide
decide-outcome {assumptions = qs} h act {s} r = assume-outcome h act (drop (decision_level s.vars) qs) r refl
