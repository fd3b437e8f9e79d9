-- Taking a clause, in document 01's words: what is dropped, what is kept, and when there is no storage.
use Rattle.std.specs.Prelude.{◌≡◌, ◌⊎◌, true, List, ℕ, ◌+◌, ◌*◌, ◌≤◌, ◌<◌, length}
use Rattle.model.specs.Lit.{neg, is_true}
use Rattle.model.specs.Script.{Config}
use Rattle.model.specs.State.{Store, VarState, State}
use Rattle.model.specs.Store.{stored_literals}
use Rattle.lawbase.specs.Basics.{◌∈◌, Every}
use Rattle.assign.specs.Reading.{Unset}
use Rattle.watching.specs.Intake.{Residue}

-- ---- what is dropped, and what is kept

-- a literal is true, or both signs of one are there
pub record Dropped (values c : List ℕ) : Type 0 where
  pub literal : ℕ
  pub member : literal ∈ c
  pub why : (is_true values literal ≡ true) ⊎ (neg literal ∈ c)

-- ---- storage

-- C clauses are stored, or the stored literals with those of c would pass L
abbrev pub Full : Config → Store → List ℕ → Type 0
Full cfg st c = (length st.clauses ≡ cfg.max_clauses) ⊎ (cfg.max_literals < stored_literals st.clauses + length c)

-- Document 01, "Answer 2 to a clause": `ok` holds, the clause is not dropped, two or more literals are kept, and C clauses are stored or the stored
-- literals with the kept ones would pass L.
pub record NoStorage (cfg : Config) (s : State) (c : List ℕ) : Type 0 where
  pub ok : s.ok ≡ true
  pub not_dropped : Dropped s.vars.values c → ⊥
  pub kept : List ℕ
  pub residue : Residue s.vars.values c kept
  pub two : 2 ≤ length kept
  pub full : Full cfg s.store kept

-- ---- what is kept, on the trail

pub record Kept (n : ℕ) (vs : VarState) (c kept : List ℕ) : Type 0 where
  pub among : Every (λ l. l ∈ c) kept
  pub rest : Every (λ l. (l ∈ kept) ⊎ (neg l ∈ vs.trail)) c
  pub unset : Every (λ l. Unset vs l) kept
  pub range : Every (λ l. l < 2 * n) kept
  pub short : length kept ≤ n
