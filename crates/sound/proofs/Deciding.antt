-- `decide` leaves level 0 and the clauses as they are.
use Rattle.std.specs.Prelude.{refl, List, [], ◌∷◌, ℕ, ◌*◌, ◌<◌, drop, Float}
use mathlib.Core.List.Memᴰ.{head as here}
use Rattle.model.specs.Script.{Config}
use Rattle.model.specs.State.{State, decision_level, with_vars}
use Rattle.model.specs.Trail.{new_decision_level}
use Rattle.model.specs.Decide.{assume, decide}
use Rattle.lawbase.specs.Basics.{Every, shrink}
use Rattle.lawbase.specs.WellFormed.{WellFormed}
use Rattle.assign.proofs.Lists.{in_drop}
use Rattle.assign.proofs.Reading.{unset_of}
use Rattle.assign.proofs.Pick.{branch_some}
use Rattle.assign.proofs.Decide.{assume_nil, assume-cons, opened-empty}
use Rattle.sound.specs.Sound.{SameBase}
use Rattle.sound.proofs.Sound.{same_refl, same_trans}
use Rattle.sound.proofs.Opened.{open_base}
use Rattle.sound.proofs.Steps.{level_base}
use Rattle.sound.specs.Deciding.{decision_state}

assume-base : (cfg : Config) (act : List Float) (ps : List ℕ) → Every (λ p. p < 2 * cfg.variables) ps → (s : State) → WellFormed cfg s
    → SameBase s (decision_state (assume act ps s))
assume-base cfg act [] r s w =
    assume_nil (λ d. SameBase s (decision_state d)) act s (λ e. same_refl s) (λ p e. open_base s w.vars p (branch_some w act p e))
assume-base cfg act (p ∷ ps) r s w =
    assume-cons (λ d. SameBase s (decision_state d)) act p ps s
    (λ t. same_trans (level_base s) (assume-base cfg act ps (shrink r) (with_vars s (new_decision_level s.vars)) (opened-empty w)))
    (λ a b. same_refl s)
    (λ a b. open_base s w.vars p (record { range = r p (here refl); unset = unset_of w.vars p (r p (here refl)) a b }))

pub decide-base : (cfg : Config) (act : List Float) (assumptions : List ℕ) → Every (λ p. p < 2 * cfg.variables) assumptions → (s : State)
    → WellFormed cfg s → SameBase s (decision_state (decide act assumptions s))
unfolding decide
decide-base cfg act ps r s w =
    assume-base cfg act (drop (decision_level s.vars) ps) (λ p i. r p (in_drop (decision_level s.vars) ps i)) s w
