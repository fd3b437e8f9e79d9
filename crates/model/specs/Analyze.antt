-- Rule 3: `analyze`, from a false clause to the clause that is learnt.
use Rattle.std.specs.Prelude.{ℕ, suc, ◌-◌, true, false, not, ◌&&◌, List, [], ◌∷◌, ◌++◌, reverse, get_or, drop, set, replicate, leb, ltb, eqb}
use Rattle.model.specs.Lit.{var, neg}
use Rattle.model.specs.Script.{Config}
use Rattle.model.specs.State.{Store, VarState, Activity, Solver, decision_level, level_lit, clause_at, reason_rest}
use Rattle.model.specs.Activity.{var_bump_activity}
use Rattle.model.specs.Minimise.{is_seen, minimize_conflict}

-- The resolvent so far: `path` counts its literals on the conflict's level, `learnt` has those below it. `seen` has a 1 for the variables of both.
pub record Resolvent : Type 0 where
  pub seen : List ℕ
  pub path : ℕ
  pub learnt : List ℕ
  pub activity : Activity

-- the literals of a clause join it; each is bumped on first sight, above level 0
unfoldable pub join : VarState → List ℕ → Resolvent → Resolvent
join vs [] r = r
join vs (q ∷ qs) r =
    let seen = set r.seen (var q) 1 in
    let activity = var_bump_activity r.activity (var q) in
    elim (not (is_seen r.seen q) && ltb 0 (level_lit vs q)) [
      | false ↦ join vs qs r
      | true ↦
          elim (eqb (level_lit vs q) (decision_level vs)) [
            | true ↦ join vs qs (record { seen = seen; path = suc r.path; learnt = r.learnt; activity = activity })
            | false ↦ join vs qs (record { seen = seen; path = r.path; learnt = r.learnt ++ (q ∷ []); activity = activity })
          ]
    ]

-- Back along the trail, given from its end. A seen literal is resolved with its reason, until it is the last one on the conflict's level: the first
-- UIP, whose negation then stands first. (The Rust keeps marks on what was resolved, REMOVABLE, only to assert that it is not met again.)
unfoldable pub resolve : Store → VarState → List ℕ → Resolvent → Resolvent
resolve st vs [] r = r
resolve st vs (p ∷ ps) r =
    let seen = set r.seen (var p) 0 in
    elim (is_seen r.seen p) [
      | false ↦ resolve st vs ps r
      | true ↦
          elim (leb r.path 1) [
            | true ↦ record { seen = seen; path = 0; learnt = neg p ∷ r.learnt; activity = r.activity }
            | false ↦
                resolve st vs ps
                (join vs (reason_rest st vs p) (record { seen = seen; path = r.path - 1; learnt = r.learnt; activity = r.activity }))
          ]
    ]

-- the place of the first literal on the highest level, among `best`, which is on `level`, and the literals from place i on
unfoldable pub highest : VarState → ℕ → ℕ → ℕ → List ℕ → ℕ
highest vs best level i [] = best
highest vs best level i (l ∷ ls) =
    elim (ltb level (level_lit vs l)) [ true ↦ highest vs i (level_lit vs l) (suc i) ls | false ↦ highest vs best level (suc i) ls ]

-- that literal changes places with the first one
unfoldable pub highest_first : VarState → List ℕ → List ℕ
highest_first vs [] = []
highest_first vs (l ∷ ls) =
    let i = highest vs 0 (level_lit vs l) 1 ls in
    set (set (l ∷ ls) 0 (get_or (l ∷ ls) i 0)) i l

unfoldable pub backtrack_level : VarState → List ℕ → ℕ
backtrack_level vs [] = 0
backtrack_level vs (l ∷ ls) = level_lit vs l

-- the clause learnt, the level to go back to, and the activities after the bumps
pub record Learnt : Type 0 where
  pub clause : List ℕ
  pub level : ℕ
  pub activity : Activity

-- the resolvent at the first UIP, which stands first in `learnt`
unfoldable pub first_uip : Config → Solver → ℕ → Resolvent
first_uip cfg x confl =
    let st = x.state.store in
    let vs = x.state.vars in
    let start = join vs (clause_at st confl) (record { seen = replicate cfg.variables 0; path = 0; learnt = []; activity = x.activity }) in
    resolve st vs (reverse vs.trail) start

unfoldable pub analyze : Config → Solver → ℕ → Learnt
analyze cfg x confl =
    let st = x.state.store in
    let vs = x.state.vars in
    let r = first_uip cfg x confl in
    let rest = highest_first vs (minimize_conflict cfg.mode st vs (drop 1 r.learnt) r.seen) in
    record { clause = get_or r.learnt 0 0 ∷ rest; level = backtrack_level vs rest; activity = r.activity }
