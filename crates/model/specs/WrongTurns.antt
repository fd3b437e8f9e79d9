-- Document 01's wrong turns: for each a case whose cells it would change.
use Rattle.std.specs.Prelude.{◌≡◌, refl, [], ◌∷◌}
use Rattle.model.specs.Table.{script}
use Rattle.model.specs.Exec.{refuses, gives, out, out_of}

pub record WrongTurns : Type 0 where
  -- assumptions added as unit clauses: after the assumption 0, the assumption 1 would fail
  pub outlives : out (script 1 (2 ∷ 1 ∷ 0 ∷ 1 ∷ 2 ∷ 1 ∷ 1 ∷ 1 ∷ [])) ≡ 0 ∷ 0 ∷ 1 ∷ 0 ∷ 0 ∷ 0 ∷ 1 ∷ 1 ∷ []
  -- a final clause with the assumptions' own signs: the assumption 0, false by the clause [1]
  pub own_signs : out (script 1 (1 ∷ 1 ∷ 1 ∷ 2 ∷ 1 ∷ 0 ∷ 1 ∷ [])) ≡ 1 ∷ 1 ∷ 0 ∷ 1 ∷ 1 ∷ []
  -- equal masks taken for equal levels: repeats of an assumption open levels 32 apart
  pub masks : out
      (15 ∷ 65535 ∷ 64 ∷ 2 ∷ 2 ∷ 100 ∷ 1 ∷ 3 ∷ 2 ∷ 12 ∷ 24 ∷ 1 ∷ 3 ∷ 28 ∷ 13 ∷ 0 ∷ 1 ∷ 3 ∷ 12 ∷ 2 ∷ 27 ∷ 1 ∷ 2 ∷ 13 ∷ 29 ∷ 1 ∷ 3 ∷ 26 ∷ 25 ∷ 0 ∷ 2 ∷ 30 ∷ 4 ∷ 4 ∷ 4 ∷ 4 ∷ 4 ∷ 4 ∷ 4 ∷ 4 ∷ 4 ∷ 4 ∷ 4 ∷ 4 ∷ 4 ∷ 4 ∷ 4 ∷ 4 ∷ 4 ∷ 4 ∷ 4 ∷ 4 ∷ 4 ∷ 4 ∷ 4 ∷ 4 ∷ 4 ∷ 4 ∷ 4 ∷ 4 ∷ 4 ∷ 4 ∷ 3 ∷ [])
      ≡ 1 ∷ 1 ∷ 1 ∷ 1 ∷ 1 ∷ 0 ∷ 2 ∷ 15 ∷ 1 ∷ 0 ∷ 0 ∷ 1 ∷ 1 ∷ 1 ∷ 1 ∷ 1 ∷ 1 ∷ 1 ∷ 1 ∷ 1 ∷ 0 ∷ 0 ∷ 0 ∷ []
  -- `ok` false on a FALSE whose final clause is not empty: the next solve, without the assumption, would say FALSE
  pub still_ok : out (script 1 (1 ∷ 1 ∷ 1 ∷ 2 ∷ 1 ∷ 0 ∷ 1 ∷ 2 ∷ 0 ∷ 1 ∷ [])) ≡ 1 ∷ 1 ∷ 0 ∷ 1 ∷ 1 ∷ 0 ∷ 0 ∷ 1 ∷ 1 ∷ []
  -- out sized for V literals: P9 needs V + 1
  pub sized : out_of (script 1 (2 ∷ 2 ∷ 0 ∷ 1 ∷ 1 ∷ [])) 224 1 4 ≡ refuses 12 5
  pub fits : out_of (script 1 (2 ∷ 2 ∷ 0 ∷ 1 ∷ 1 ∷ [])) 224 1 5 ≡ gives (1 ∷ 0 ∷ 2 ∷ 0 ∷ 1 ∷ [])

pub wrong_turns : WrongTurns
unfolding out out_of
wrong_turns = record { outlives = refl; own_signs = refl; masks = refl; still_ok = refl; sized = refl; fits = refl }
