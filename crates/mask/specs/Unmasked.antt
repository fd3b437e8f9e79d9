-- Rule 4 of mode 2 without the mask of levels: the functions of crate model, `Minimise` and `Analyze`, with no question about a literal's level but
-- whether it is 0. Each has the name of the one that it follows, and `-unmasked`.
use Rattle.std.specs.Prelude.{ℕ, zero, suc, true, false, not, ◌||◌, List, [], ◌∷◌, ◌++◌, length, get_or, drop, set, eqb}
use Rattle.std.specs.Prelude.{Option, None as none, Some as some}
use Rattle.model.specs.Lit.{var, no_reason}
use Rattle.model.specs.Script.{Config}
use Rattle.model.specs.State.{Store, VarState, Solver, level_lit, reason_lit, reason_rest}
use Rattle.model.specs.Minimise.{is_seen, Tracing}
use Rattle.model.specs.Analyze.{Learnt, first_uip, highest_first, backtrack_level}

-- The literals of a reason. One that is at level 0 or seen is passed over, one with a reason is marked and pushed, and a decision ends it.
unfoldable pub push_reason_unmasked : VarState → List ℕ → Tracing → Option Tracing
push_reason_unmasked vs [] t = some t
push_reason_unmasked vs (l ∷ ls) t =
    elim (eqb (level_lit vs l) 0 || is_seen t.seen l) [
      | true ↦ push_reason_unmasked vs ls t
      | false ↦
          elim (not (eqb (reason_lit vs l) no_reason)) [
            | true ↦ push_reason_unmasked vs ls (record { stack = l ∷ t.stack; seen = set t.seen (var l) 1 })
            | false ↦ none
          ]
    ]

unfoldable pub lit_redundant_unmasked : Store → VarState → ℕ → Tracing → Option (List ℕ)
lit_redundant_unmasked st vs zero t = none
lit_redundant_unmasked st vs (suc turns) t =
    elim t.stack [
      | [] ↦ some t.seen
      | q ∷ rest ↦
          elim (push_reason_unmasked vs (reason_rest st vs q) (record { stack = rest; seen = t.seen })) [
            | none ↦ none
            | some t' ↦ lit_redundant_unmasked st vs turns t'
          ]
    ]

unfoldable pub drop_redundant_unmasked : Store → VarState → List ℕ → List ℕ → List ℕ → List ℕ
drop_redundant_unmasked st vs kept [] seen = kept
drop_redundant_unmasked st vs kept (l ∷ ls) seen =
    elim (eqb (reason_lit vs l) no_reason) [
      | true ↦ drop_redundant_unmasked st vs (kept ++ (l ∷ [])) ls seen
      | false ↦
          elim (lit_redundant_unmasked st vs (suc (length seen)) (record { stack = l ∷ []; seen = seen })) [
            | none ↦ drop_redundant_unmasked st vs (kept ++ (l ∷ [])) ls seen
            | some seen' ↦ drop_redundant_unmasked st vs kept ls seen'
          ]
    ]

-- the clause learnt from a conflict
unfoldable pub analyze_unmasked : Config → Solver → ℕ → Learnt
analyze_unmasked cfg x confl =
    let st = x.state.store in
    let vs = x.state.vars in
    let r = first_uip cfg x confl in
    let rest = highest_first vs (drop_redundant_unmasked st vs [] (drop 1 r.learnt) r.seen) in
    record { clause = get_or r.learnt 0 0 ∷ rest; level = backtrack_level vs rest; activity = r.activity }
