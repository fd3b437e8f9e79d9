-- What the state of a run knows of the clauses taken so far, and of the log, the clauses learnt, newest first.
use Rattle.std.specs.Prelude.{◌≡◌, true, false, List, [], ◌++◌, ℕ, ◌*◌, ◌<◌}
use Rattle.model.specs.Script.{Config}
use Rattle.model.specs.State.{Store, VarState, State, decision_level, level_lit}
use Rattle.lawbase.specs.Basics.{◌∈◌, Every}
use Rattle.lawbase.specs.Sem.{Row, sat, Sat, Models, Rup, Log}
use Rattle.lawbase.specs.WellFormed.{WellFormed}
use Rattle.learning.specs.FirstUip.{Known}
use Rattle.watching.specs.Watching.{Watching}

-- a row in which the stored clauses and level 0 are true
pub record Agrees (ρ : ℕ → ℕ) (st : Store) (vs : VarState) : Type 0 where
  pub stored : Every (Sat ρ) st.clauses
  pub fixed : Every (λ p. level_lit vs p ≡ 0 → sat ρ p ≡ true) vs.trail

-- such a row is a model of the clauses taken: what intake dropped or left out is so at level 0
abbrev pub Covers : List (List ℕ) → Store → VarState → Type 0
Covers taken st vs = (ρ : ℕ → ℕ) → Row ρ → Agrees ρ st vs → Models ρ taken

-- n variables. What the state says of the clauses taken.
pub record Sound (n : ℕ) (taken log : List (List ℕ)) (s : State) : Type 0 where
  pub known : Known (log ++ taken) s.store s.vars
  pub logged : Log taken log
  -- asked for while there may be a model
  pub covers : s.ok ≡ true → Covers taken s.store s.vars
  pub range : Every (λ c. Every (λ l. l < 2 * n) c) taken
  pub bad : s.ok ≡ false → Rup (log ++ taken) []

-- the state between two records
pub record Ready (cfg : Config) (taken log : List (List ℕ)) (s : State) : Type 0 where
  pub formed : WellFormed cfg s
  pub watching : s.ok ≡ true → Watching cfg s
  pub level : decision_level s.vars ≡ 0
  pub sound : Sound cfg.variables taken log s

-- ---- the same clauses and the same level 0

pub record SameBase (s s' : State) : Type 0 where
  pub ok : s'.ok ≡ s.ok
  pub clauses : s'.store.clauses ≡ s.store.clauses
  -- a literal of level 0 of the one is one of the other
  pub back : (p : ℕ) → p ∈ s'.vars.trail → level_lit s'.vars p ≡ 0 → (p ∈ s.vars.trail) × (level_lit s.vars p ≡ 0)
  pub forth : (p : ℕ) → p ∈ s.vars.trail → level_lit s.vars p ≡ 0 → (p ∈ s'.vars.trail) × (level_lit s'.vars p ≡ 0)
