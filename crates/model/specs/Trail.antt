-- The trail: putting a literal on it, opening a level, and rule 5's way back to one.
use Rattle.std.specs.Prelude.{ℕ, zero, suc, ◌-◌, true, false, length, get_or, take, drop, set, ltb}
use mathlib.Core.List.{List, [], ◌∷◌, ◌++◌, foldr}
use Rattle.model.specs.Lit.{var, sign, l_undef}
use Rattle.model.specs.State.{VarState, State, decision_level}

-- the literal p becomes true on the present level, by the clause `from`
unfoldable pub unchecked_enqueue : VarState → ℕ → ℕ → VarState
unchecked_enqueue vs p from =
    record {
      values = set vs.values (var p) (sign p);
      levels = set vs.levels (var p) (decision_level vs);
      reasons = set vs.reasons (var p) from;
      trail = vs.trail ++ (p ∷ []);
      limits = vs.limits;
    }

unfoldable pub new_decision_level : VarState → VarState
new_decision_level vs =
    record {
      values = vs.values;
      levels = vs.levels;
      reasons = vs.reasons;
      trail = vs.trail;
      limits = vs.limits ++ (length vs.trail ∷ []);
    }

-- the values without those of a part of the trail, taken from its end
unfoldable pub unset : List ℕ → List ℕ → List ℕ
unset values part = foldr (λ p vs. set vs (var p) l_undef) values part

-- the phases with the signs of a part of the trail
unfoldable pub save : List ℕ → List ℕ → List ℕ
save phases part = foldr (λ p ps. set ps (var p) (sign p)) phases part

-- The part of the trail whose signs are saved on the way back to `level`. Phase 0: none. Phase 1: what stands above the last limit, so not the last
-- decision. Phase 2: all that goes.
unfoldable pub saved_part : ℕ → VarState → ℕ → List ℕ
saved_part zero vs level = []
saved_part (suc zero) vs level = drop (suc (get_or vs.limits (decision_level vs - 1) 0)) vs.trail
saved_part (suc (suc phase)) vs level = drop (get_or vs.limits level 0) vs.trail

-- where on the trail the literals above `level` start
abbrev pub level_end : VarState → ℕ → ℕ
level_end vs level = get_or vs.limits level 0

-- the assignment without what stands above `level`; levels and reasons of what goes are left as they are
unfoldable pub vars_until : VarState → ℕ → VarState
vars_until vs level =
    record {
      values = unset vs.values (drop (level_end vs level) vs.trail);
      levels = vs.levels;
      reasons = vs.reasons;
      trail = take (level_end vs level) vs.trail;
      limits = take level vs.limits;
    }

-- back to `level`: its assignments stay, those above it go
unfoldable pub cancel_until : ℕ → State → ℕ → State
cancel_until phase s level =
    elim (ltb level (decision_level s.vars)) [
      | false ↦ s
      | true ↦
          record {
            ok = s.ok;
            store = s.store;
            vars = vars_until s.vars level;
            phases = save s.phases (saved_part phase s.vars level);
            qhead = level_end s.vars level;
          }
    ]
