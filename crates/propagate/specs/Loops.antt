-- The loops: a walk over a list, and the queue.
use Rattle.std.specs.Prelude.{ℕ, suc, ◌-◌, ◌≤◌, ◌<◌, ◌≡◌, Bool, false, [], length, ltb}
use Rattle.std.proofs.Common.{arith, sym, ap, ap₂, subst, ◌∙◌, ltb-false}
use Rattle.std.specs.Prelude.{Option, None as none, Some as some}
use Rattle.model.specs.Lit.{no_reason}
use Rattle.model.specs.State as model
use Rattle.model.specs.Propagate as Definition
use Rattle.model.specs.Propagate.{visit, propagate}
use Rattle.lawbase.specs.Basics.{◌∈◌}
use Rattle.assign.proofs.Lists.{get_or_in}
use Rattle.assign.proofs.Reading.{trail_range, trail_length}
use Rattle.watch.specs.View.{list_of}
use Rattle.watch.specs.Meaning.{as_count}
use Rattle.watch.specs.declared.Cursor.{Cursor}
use Rattle.watching.specs.Propagate.{taken, turn, Turned, onward, halted}
use Rattle.watching.proofs.Propagate.{turn_formed}
use Rattle.state.specs.declared.State.{State}
use Rattle.state.specs.Still.{config_of, state_at, Still, Beside}
use Rattle.propagate.specs.Visit.{list_at, to_visit, visit_end, propagate_end, propagate_on, propagate_clash}
use Rattle.propagate.specs.View.{Walks, Gives}

-- a result is given whole
gives_is : {s s' : State} {o : Definition.Propagated} {r : Option ℕ} → Gives s s' o r → o ≡ record { state = state_at s'; conflict = r }
gives_is k = ap₂ (λ (s : model.State) (c : Option ℕ). record { state = s; conflict = c }) (sym k.has.state) k.conflict

is_given : (s s' : State) (o : Definition.Propagated) (r : Option ℕ) → Still s' → o ≡ record { state = state_at s'; conflict = r } → Beside s s' → Gives s s' o r
is_given s s' o r k e b =
    record {
      has = record { still = k; state = sym (ap (λ (z : Definition.Propagated). z.state) e) };
      conflict = ap (λ (z : Definition.Propagated). z.conflict) e;
      beside = b;
    }

beside_then : {s s₁ s₂ : State} → Beside s s₁ → Beside s₁ s₂ → Beside s s₂
beside_then a b = record { config = b.config ∙ a.config; scratch = b.scratch ∙ a.scratch; finals = b.finals ∙ a.finals }

-- ---- the walk over the watches of p, from the start in s₀

pub record Visiting (s₀ : State) (p : ℕ) (s : State) (c : Cursor) : Type 0 where
  pub walks : Walks s p c
  pub same : to_visit p c.passed (state_at s) ≡ visit p [] (list_at p (state_at s₀)) (state_at s₀)
  pub beside : Beside s₀ s

-- the list of a literal on the trail
pub listed_in : (s : State) (p : ℕ) → Still s → p ∈ s.trail.vars.trail → p < length s.watches.lists
listed_in s p k on = rw k.sized.lists (trail_range k.formed.vars p on)

module _ (s₀ : State) (p : ℕ) (s : State) (c : Cursor) (k : Visiting s₀ p s c) where
  abbrev result : Definition.Propagated
  result = visit p [] (list_at p (state_at s₀)) (state_at s₀)

  pub visiting_end : (b : Bool) → b ≡ ltb c.passed (length (list_of s.watches p)) → b ≡ false → Gives s₀ s result none
  visiting_end b e t =
      let done : length (list_of s.watches p) ≤ c.passed = ltb-false c.passed (length (list_of s.watches p)) (sym e ∙ t) in
      is_given s₀ s result none k.walks.still (sym k.same ∙ visit_end p c.passed (state_at s) (omega (arith, as_count s.watches p))) k.beside

-- ---- a turn

-- the literal at the head of the queue is on the trail
pub taken_on : (s : State) → s.qhead < length s.trail.vars.trail → (p : ℕ) → p ≡ taken (state_at s) → p ∈ s.trail.vars.trail
taken_on s lt p e = subst (λ (q : ℕ). q ∈ s.trail.vars.trail) (sym e) (get_or_in s.trail.vars.trail s.qhead 0 lt)

-- ---- the queue, from the start in s₀

pub record Propagating (s₀ s : State) : Type 0 where
  pub still : Still s
  pub same : propagate s.config.vars (state_at s) ≡ propagate s₀.config.vars (state_at s₀)
  pub beside : Beside s₀ s

-- a turn that meets no false clause moves the head of the queue on
head_moves : {P : model.State → Type 0} {Q : ℕ → model.State → Type 0} (q : ℕ) (t : model.State) (o : Definition.Propagated) → Turned P Q q o → o ≡ record { state = t; conflict = none } → t.qhead ≡ suc q
head_moves q t o (onward s h e) f = sym (ap (λ (z : Definition.Propagated). z.state.qhead) f) ∙ e
head_moves q t o (halted c s h) f = absurd (let z : ◌≡◌ {A = ℕ} 0 1 = cc (ap (λ (z : Definition.Propagated). z.conflict) f) in omega arith)

module _ (s₀ s : State) (k : Propagating s₀ s) where
  few : (config_of s.config).max_clauses ≤ no_reason
  few = omega (arith, k.still.sized.room)

  module _ (lt : s.qhead < length s.trail.vars.trail) (s' : State) where
    pub propagating_step : Gives s s' (turn (state_at s)) none → Propagating s₀ s'
    propagating_step a =
        record {
          still = a.has.still;
          same =
              ap (λ (n : ℕ). propagate n (state_at s')) (ap (λ g. g.vars) a.beside.config)
              ∙ sym (propagate_on (config_of s.config) few (state_at s) k.still.formed lt (state_at s') (gives_is a)) ∙ k.same;
          beside = beside_then k.beside a.beside;
        }

    pub propagating_less : Gives s s' (turn (state_at s)) none → s'.config.vars - s'.qhead < s.config.vars - s.qhead
    propagating_less a =
        omega (
          arith,
          ap (λ g. g.vars) a.beside.config,
          head_moves s.qhead (state_at s') (turn (state_at s)) (turn_formed (config_of s.config) few (state_at s) k.still.formed lt) (gives_is a),
          lt,
          trail_length k.still.formed.vars,
        )

    pub propagating_clash : (c : ℕ) → Gives s s' (turn (state_at s)) (some c) → Gives s₀ s' (propagate s₀.config.vars (state_at s₀)) (some c)
    propagating_clash c a =
        is_given s₀ s' (propagate s₀.config.vars (state_at s₀)) (some c) a.has.still
        (sym k.same ∙ propagate_clash (config_of s.config) few (state_at s) k.still.formed lt (state_at s') c (gives_is a)) (beside_then k.beside a.beside)

  pub propagating_end : length s.trail.vars.trail ≤ s.qhead → Gives s₀ s (propagate s₀.config.vars (state_at s₀)) none
  propagating_end le =
      is_given s₀ s (propagate s₀.config.vars (state_at s₀)) none k.still (sym k.same ∙ propagate_end (config_of s.config) few (state_at s) k.still.formed le) k.beside
