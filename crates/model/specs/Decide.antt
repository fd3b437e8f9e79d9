-- Rule 6: the next decision.
use Rattle.std.specs.Prelude.{ℕ, suc, ◌+◌, ◌*◌, true, false, List, [], ◌∷◌, get_or, drop, eqb, Float}
use Rattle.std.specs.Prelude.{Option, None as none, Some as some}
use Rattle.std.specs.Float.{nan}
use Rattle.std.specs.Float.Ieee.{lt}
use Rattle.model.specs.Lit.{neg, no_reason, l_undef, is_true, is_false}
use Rattle.model.specs.State.{State, decision_level, with_vars}
use Rattle.model.specs.Trail.{unchecked_enqueue, new_decision_level}
use Rattle.model.specs.Final.{analyze_final}

-- the unset variable of greatest activity, the lowest on a tie, among `best` and the variables from v on, whose values are given
unfoldable pub pick : List Float → Option ℕ → ℕ → List ℕ → Option ℕ
pick act best v [] = best
pick act best v (x ∷ xs) =
    elim (eqb x l_undef) [
      | false ↦ pick act best (suc v) xs
      | true ↦
          elim best [
            | none ↦ pick act (some v) (suc v) xs
            | some b ↦ elim (lt (get_or act b nan) (get_or act v nan)) [ true ↦ pick act (some v) (suc v) xs | false ↦ pick act (some b) (suc v) xs ]
          ]
    ]

-- in its saved sign
unfoldable pub pick_branch_lit : List Float → State → Option ℕ
pick_branch_lit act s = elim (pick act none 0 s.vars.values) [ none ↦ none | some v ↦ some (2 * v + get_or s.phases v 0) ]

-- a level is opened with its decision; or every variable has a value; or an assumption is false, with the final clause
pub data Decision : Type 0 where
  decided : State → Decision
  complete : State → Decision
  failed : State → List ℕ → Decision

unfoldable pub open_level : State → ℕ → State
open_level s p = with_vars s (unchecked_enqueue (new_decision_level s.vars) p no_reason)

-- the assumptions that have no level yet, in order; a true one opens an empty level
unfoldable pub assume : List Float → List ℕ → State → Decision
assume act [] s = elim (pick_branch_lit act s) [ none ↦ complete s | some p ↦ decided (open_level s p) ]
assume act (p ∷ ps) s =
    elim (is_true s.vars.values p) [
      | true ↦ assume act ps (with_vars s (new_decision_level s.vars))
      | false ↦
          elim (is_false s.vars.values p) [
            | true ↦ failed s (analyze_final s.store s.vars (neg p))
            | false ↦ decided (open_level s p)
          ]
    ]

unfoldable pub decide : List Float → List ℕ → State → Decision
decide act assumptions s = assume act (drop (decision_level s.vars) assumptions) s
