-- The other steps of a run keep the clauses covered: going back, opening a level, setting a literal, storing a clause.
use Rattle.std.specs.Prelude.{ℕ}
use Rattle.std.proofs.Math.ListN.{length}
use Rattle.model.specs.Script.{Config}
use Rattle.model.specs.State.{VarState, State}
use Rattle.model.specs.Trail.{unchecked_enqueue}
use Rattle.lawbase.specs.Basics.{Every}
use Rattle.lawbase.specs.WellFormed.{WellFormed}
use Rattle.watching.specs.Covered.{Covered, Tied}
use Rattle.watching.specs.Watching.{Below}

-- ---- going back

-- what a way back starts from, after a conflict too
pub record Returning (cfg : Config) (s : State) : Type 0 where
  pub formed : WellFormed cfg s
  pub covered : Covered s.store.clauses s.vars (Below s.vars)
  pub tied : Every (Tied s.store.clauses s.vars) s.vars.trail

-- ---- storing a clause

-- the assignment with a set by the next clause to be stored
abbrev pub learnt_set : State → ℕ → VarState
learnt_set s a = unchecked_enqueue s.vars a (length s.store.clauses)
