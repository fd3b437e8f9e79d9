-- A decision keeps the clauses covered.
use Rattle.std.specs.Prelude.{refl, List, [], ◌∷◌, ℕ, ◌*◌, ◌<◌, drop, Float}
use mathlib.Core.List.Memᴰ.{head as here}
use Rattle.model.specs.State.{State, decision_level, with_vars}
use Rattle.model.specs.Script.{Config}
use Rattle.model.specs.Trail.{new_decision_level}
use Rattle.model.specs.Decide.{assume, decide}
use Rattle.lawbase.specs.Basics.{Every, shrink}
use Rattle.assign.proofs.Lists.{in_drop}
use Rattle.assign.proofs.Reading.{unset_of}
use Rattle.assign.proofs.Pick.{branch_some}
use Rattle.assign.proofs.Decide.{assume_nil, assume-cons}
use Rattle.watching.proofs.MoreMoves.{decision_watching}
use Rattle.watching.proofs.Moves.{level_watching}
use Rattle.watching.specs.Decide.{Resting, Decides}

level_resting : {cfg : Config} {s : State} → Resting cfg s → Resting cfg (with_vars s (new_decision_level s.vars))
unfolding new_decision_level
level_resting h = record { watching = level_watching h.watching h.rest; rest = h.rest }

assume_watching : {cfg : Config} (act : List Float) (ps : List ℕ) {s : State} → Every (λ p. p < 2 * cfg.variables) ps → Resting cfg s
    → Decides cfg (assume act ps s)
assume_watching {cfg} act [] {s} range h =
    assume_nil (Decides cfg) act s (λ e. h) (λ p e. decision_watching h.watching h.rest p (branch_some h.watching.formed act p e))
assume_watching {cfg} act (p ∷ ps) {s} range h =
    assume-cons (Decides cfg) act p ps s
    (λ t. assume_watching act ps (shrink range) (level_resting h))
    (λ a b. h)
    (λ a b.
    decision_watching h.watching h.rest p
    (record { range = range p (here refl); unset = unset_of h.watching.formed.vars p (range p (here refl)) a b }))

-- once all is propagated
pub decide_watching : {cfg : Config} (act : List Float) (assumptions : List ℕ) {s : State} → Every (λ p. p < 2 * cfg.variables) assumptions
    → Resting cfg s → Decides cfg (decide act assumptions s)
unfolding decide
decide_watching act ps {s} range h =
    assume_watching act (drop (decision_level s.vars) ps) (λ p i. range p (in_drop (decision_level s.vars) ps i)) h
