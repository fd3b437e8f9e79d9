-- Rule 5: what comes of the clause in the buffer.
use Rattle.std.specs.Prelude.{ℕ, suc, ◌+◌, ◌≤◌, ◌≡◌, refl, ◌≢◌, Bool, true, false, ◌&&◌, List, [], ◌∷◌, length, get_or, drop, ltb, leb, Option, None as none, Some as some, Result, MatchResult}
use Rattle.std.proofs.Common.{arith, sym, ap, ◌∙◌, subst, true≢false, drop-cons}
use Rattle.model.specs.Lit.{var, neg}
use Rattle.model.specs.Script as Script
use Rattle.model.specs.State as ms
use Rattle.model.specs.State.{Activity}
use Rattle.model.specs.Store.{stored_literals, has_room}
use Rattle.model.specs.Search.{add_learnt_and_backtrack}
use Rattle.lawbase.specs.Basics.{neg-neg, var-neg}
use Rattle.assign.specs.Learn.{Asserting, with_learnt}
use Rattle.assign.proofs.Learn.{learn_unit, learn_cases}
use Rattle.learning.specs.FirstUip.{Conflict}
use Rattle.learning.specs.Analyzed.{Analyzed}
use Rattle.learning.proofs.Analyzed.{analyze_law}
use Rattle.options.specs.Numbers.{phase_number}
use Rattle.state.specs.declared.Config.{Config}
use Rattle.state.specs.declared.State.{State}
use Rattle.state.specs.Still.{Still, Has, Beside, state_at, config_of}
use Rattle.analyze.specs.Uip.{solver}
use Rattle.learn.specs.Learned.{learnt_of, Learned}
use Rattle.learn.specs.Reducing.{head_first}
use Rattle.learn.specs.Backtracking.{uip_in, Unit, unit_of, Learnable, learnt_at}

-- the definition's step with the buffer's literals
abbrev pub added_to : State → ℕ → Option ms.State
added_to s level = add_learnt_and_backtrack (config_of s.config) (state_at s) s.scratch.buffer.items level

-- the buffer has a learnt clause, to go back to `level` with
pub record Backable (s : State) (level : ℕ) : Type 0 where
  pub still : Still s
  pub analyzed : Analyzed s.config.vars (state_at s).store (state_at s).vars s.scratch.buffer.items level

-- the state is what the definition gives
pub record Back (s s' : State) (level : ℕ) : Type 0 where
  pub state : ms.State
  pub is : added_to s level ≡ some state
  pub has : Has s' state
  pub beside : Beside s s'

-- there is no room, and nothing is done
pub record Full (s s' : State) (level : ℕ) : Type 0 where
  pub is : added_to s level ≡ none
  pub same : s' ≡ s

abbrev pub Backs : {T E : Type 0} → State → State → ℕ → Result T E → Type 0
Backs s s' level r = MatchResult r (λ _. Back s s' level) (λ _. Full s s' level)

module _ (cfg : Script.Config) (s : ms.State) (uip level second : ℕ) (more : List ℕ) where
  learn_stored : has_room cfg s.store (uip ∷ second ∷ more) ≡ true
      → add_learnt_and_backtrack cfg s (uip ∷ second ∷ more) level ≡ some (with_learnt cfg.phase s level uip (second ∷ more))
  learn_stored t =
      learn_cases cfg s uip level (λ o. o ≡ some (with_learnt cfg.phase s level uip (second ∷ more))) second more (λ f. absurd (true≢false (sym t ∙ f))) (λ _. refl)

  learn_full : has_room cfg s.store (uip ∷ second ∷ more) ≡ false → add_learnt_and_backtrack cfg s (uip ∷ second ∷ more) level ≡ none
  learn_full t = learn_cases cfg s uip level (λ o. o ≡ none) second more (λ _. refl) (λ f. absurd (true≢false (sym f ∙ t)))

level_neg : (levels : List ℕ) (l : ℕ) → get_or levels (var (neg l)) 0 ≡ get_or levels (var l) 0
level_neg levels l = ap (λ v. get_or levels v 0) (var-neg l)

module _ (s : State) (level : ℕ) (p : Backable s level) where
  abbrev b : List ℕ
  b = s.scratch.buffer.items

  abbrev a : Analyzed s.config.vars (state_at s).store (state_at s).vars s.scratch.buffer.items level
  a = p.analyzed

  counted : length b ≡ suc (length p.analyzed.rest)
  counted = ap length p.analyzed.is

  pub some_lit : 1 ≤ length s.scratch.buffer.items
  some_lit = omega (arith, counted)

  uip_is : uip_in s ≡ neg p.analyzed.uip
  uip_is = ap (λ (y : List ℕ). get_or y 0 0) p.analyzed.is

  rest_is : drop 1 b ≡ p.analyzed.rest
  rest_is = ap (drop 1) p.analyzed.is

  asserts : Asserting (state_at s).vars level (uip_in s) (drop 1 b)
  asserts =
      rw (uip_is, rest_is)
      (record {
        false_first = rw neg-neg p.analyzed.uip_set;
        above = omega (arith, level_neg (state_at s).vars.levels p.analyzed.uip, p.analyzed.uip_top, p.analyzed.lower);
        false_rest = p.analyzed.falsified;
        low = p.analyzed.below;
      })

  clause_is : b ≡ uip_in s ∷ drop 1 b
  clause_is = head_first b some_lit

  module _ (e : length s.scratch.buffer.items ≡ 1) where
    no_rest : drop 1 b ≡ []
    no_rest = none_behind b e
      where
        none_behind : (l : List ℕ) → length l ≡ 1 → drop 1 l ≡ []
        none_behind [] e = refl
        none_behind (x ∷ []) e = refl
        none_behind (x ∷ y ∷ l) e = absurd (omega (arith, e))

    -- a unit
    pub unit_asks : Unit s
    unit_asks =
        let y : level ≡ 0 = p.analyzed.unit.1 (sym rest_is ∙ no_rest) in
        record {
          still = p.still;
          some = some_lit;
          asserting = subst (λ (m : ℕ). Asserting (state_at s).vars m (uip_in s) []) y (subst (λ (r : List ℕ). Asserting (state_at s).vars level (uip_in s) r) no_rest asserts);
        }

    pub backs_unit : (s' : State) → Has s' (unit_of s) → Beside s s' → Back s s' level
    backs_unit s' k d =
        record {
          state = unit_of s;
          is =
              ap (λ (c : List ℕ). add_learnt_and_backtrack (config_of s.config) (state_at s) c level) (clause_is ∙ ap (λ (y : List ℕ). uip_in s ∷ y) no_rest)
              ∙ learn_unit (config_of s.config) (state_at s) (uip_in s) level;
          has = k;
          beside = d;
        }

  module _ (ne : length s.scratch.buffer.items ≢ 1) where
    two : 2 ≤ length b
    two = omega (arith, some_lit, ne)

    rest_cons : drop 1 b ≡ get_or b 1 0 ∷ drop 2 b
    rest_cons = drop-cons b 1 0 (omega (arith, two))

    all_is : b ≡ uip_in s ∷ get_or b 1 0 ∷ drop 2 b
    all_is = clause_is ∙ ap (λ (y : List ℕ). uip_in s ∷ y) rest_cons

    module _ (r : Bool) (f : r ≡ (ltb (length s.clauses.clauses) s.clauses.room && leb (stored_literals s.clauses.clauses + length s.scratch.buffer.items) s.clauses.lit_room)) where
      room_is : has_room (config_of s.config) (state_at s).store b ≡ r
      unfolding has_room
      room_is = rw (← p.still.sized.clauses, ← p.still.sized.literals) (sym f)

      -- there is room
      pub clause_asks : r ≡ true → Learnable s level
      clause_asks o =
          record {
            still = p.still;
            two = two;
            asserting = asserts;
            proper = record { two = two; range = p.analyzed.range; distinct = p.analyzed.distinct };
            room = room_is ∙ o;
          }

      pub backs_stored : r ≡ true → (s' : State) → Has s' (learnt_at s level) → Beside s s' → Back s s' level
      backs_stored o s' v d =
          record {
            state = learnt_at s level;
            is =
                ap (λ (c : List ℕ). add_learnt_and_backtrack (config_of s.config) (state_at s) c level) all_is
                ∙ learn_stored (config_of s.config) (state_at s) (uip_in s) level (get_or b 1 0) (drop 2 b)
                (ap (has_room (config_of s.config) (state_at s).store) (sym all_is) ∙ room_is ∙ o)
                ∙ ap (λ (y : List ℕ). some (with_learnt (phase_number s.config.phase) (state_at s) level (uip_in s) y)) (sym rest_cons);
            has = v;
            beside = d;
          }

      -- there is none
      pub backs_none : r ≡ false → Full s s level
      backs_none o =
          record {
            is =
                ap (λ (c : List ℕ). add_learnt_and_backtrack (config_of s.config) (state_at s) c level) all_is
                ∙ learn_full (config_of s.config) (state_at s) (uip_in s) level (get_or b 1 0) (drop 2 b)
                (ap (has_room (config_of s.config) (state_at s).store) (sym all_is) ∙ room_is ∙ o);
            same = refl;
          }

-- after `analyze`
module _ (s s' : State) (act act' : Activity) (confl r : ℕ) (l : Learned s s' act act' confl r) where
  -- the clause in the buffer is as the laws say
  pub learned_backable : Conflict s.config.vars (state_at s).store (state_at s).vars confl → Backable s' r
  learned_backable c =
      let y = analyze_law (config_of s.config) (solver (state_at s) act) confl c in
      let g : s'.config ≡ s.config = ap (λ (y : State). y.config) l.beside in
      record {
        still = l.has.still;
        analyzed =
            subst (λ (n : ℕ). Analyzed n (state_at s').store (state_at s').vars s'.scratch.buffer.items r) (sym (ap (λ (h : Config). h.vars) g))
            (subst (λ (t : ms.State). Analyzed s.config.vars t.store t.vars s'.scratch.buffer.items r) (sym l.has.state)
            (subst (λ (k : List ℕ). Analyzed s.config.vars (state_at s).store (state_at s).vars k r) (sym l.clause)
            (subst (λ (v : ℕ). Analyzed s.config.vars (state_at s).store (state_at s).vars (learnt_of s act confl).clause v) (sym l.level) y)));
      }

  -- and the step with it is the definition's
  pub learned_step : added_to s' r ≡ add_learnt_and_backtrack (config_of s.config) (state_at s) (learnt_of s act confl).clause (learnt_of s act confl).level
  learned_step =
      ap (λ (y : State). add_learnt_and_backtrack (config_of y.config) (state_at s') s'.scratch.buffer.items r) l.beside
      ∙ ap (λ (t : ms.State). add_learnt_and_backtrack (config_of s.config) t s'.scratch.buffer.items r) l.has.state
      ∙ ap (λ (k : List ℕ). add_learnt_and_backtrack (config_of s.config) (state_at s) k r) l.clause
      ∙ ap (λ (v : ℕ). add_learnt_and_backtrack (config_of s.config) (state_at s) (learnt_of s act confl).clause v) l.level
