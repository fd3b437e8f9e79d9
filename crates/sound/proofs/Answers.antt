-- What the answers say, from what the state says of the clauses taken: the model, the final clause, no model at all.
use Rattle.std.specs.Prelude.{◌≡◌, ◌≢◌, true, false, List, [], ◌∷◌, ◌++◌, ℕ, ◌*◌, ◌≤◌, ◌<◌, length, get_or, T}
use Rattle.std.proofs.Common.{subst, arith}
use borrow.Author.Tests.{eq-eqb}
use Rattle.model.specs.Lit.{var, sign, neg, undef_lit, l_undef}
use Rattle.model.specs.Script.{Config}
use Rattle.model.specs.State.{VarState, State, decision_level, clause_at}
use Rattle.model.specs.Intake.{add_clause}
use Rattle.model.specs.Book.{has, holds, is_common, Follows, NoModel, fed}
use Rattle.lawbase.specs.Basics.{◌∈◌, Every, every_cons, neg-neg, neg_range, var-neg, var_range}
use Rattle.lawbase.specs.Sem.{sat, Sat, Rup}
use Rattle.lawbase.specs.WellFormed.{WellFormed}
use Rattle.assign.proofs.Lists.{get_or_in, index}
use Rattle.assign.proofs.Reading.{trail_range, trail_valued, trail_level, value_cell}
use Rattle.assign.proofs.Searching.{searching_decision}
use Rattle.assign.specs.Decide.{Failed}
use Rattle.learning.specs.Final.{FinalClause}
use Rattle.learning.proofs.Final.{final_law, final_rup}
use Rattle.book.specs.Booleans.{every_all, in_has}
use Rattle.book.specs.Demand.{row_common}
use Rattle.watching.specs.Watching.{Settled, satisfied, open_two}
use Rattle.sound.specs.Sound.{Agrees, Sound, Ready}
use Rattle.sound.proofs.Added.{add_refuted}
use Rattle.sound.proofs.Taking.{add_ready}
use Rattle.sound.specs.Rows.{row_of}
use Rattle.sound.proofs.Rows.{small_row, row_small, sat_holds}
use Rattle.sound.proofs.Satisfied.{models_model, rup_taken, rup_none, rup_no_model}
use Rattle.sound.specs.Answers.{Finals}

-- ---- TRUE

module _ {cfg : Config} {s : State} (w : WellFormed cfg s) where
  -- a literal of the trail is true in the row of the values
  trail_sat : (p : ℕ) → p ∈ s.vars.trail → sat (row_of s.vars.values) p ≡ true
  unfolding sat
  trail_sat p i = eq-eqb (get_or s.vars.values (var p) 0) (sign p) (trail_valued w.vars p i)

  trail_holds : (p : ℕ) → p ∈ s.vars.trail → T (holds s.vars.values p)
  trail_holds p i =
      sat_holds s.vars.values p (omega (arith, var_range p cfg.variables (trail_range w.vars p i), w.vars.values)) (trail_sat p i)

  module _ (full : (v : ℕ) → v < cfg.variables → get_or s.vars.values v 0 ≢ l_undef) where
    all_set : Every (λ x. x < 2) s.vars.values
    all_set x i =
        let k = index 0 i in
        let h : k.at < cfg.variables = omega (arith, k.inside, w.vars.values) in
        omega (arith, k.value, value_cell w.vars k.at h, full k.at h)

    -- where every variable is set, a clause that is settled has a true literal
    settled_sat : (r : ℕ) → r < length s.store.clauses → Settled s.vars (clause_at s.store r)
        → Sat (row_of s.vars.values) (clause_at s.store r)
    settled_sat r h (satisfied x i j) = (x, i, trail_sat x j)
    settled_sat r h (open_two a b) =
        let p = w.store.proper (clause_at s.store r) (get_or_in s.store.clauses r [] h) in
        absurd (full (var (get_or (clause_at s.store r) 0 0))
        (var_range (get_or (clause_at s.store r) 0 0) cfg.variables
        (p.range (get_or (clause_at s.store r) 0 0) (get_or_in (clause_at s.store r) 0 0 (omega (arith, p.two))))) a)

    module _ (settled : (r : ℕ) → r < length s.store.clauses → Settled s.vars (clause_at s.store r)) where
      agrees : Agrees (row_of s.vars.values) s.store s.vars
      agrees =
          record {
            stored = λ C i.
                let k = index [] i in
                subst (Sat (row_of s.vars.values)) k.value (settled_sat k.at k.inside (settled k.at k.inside));
            fixed = λ p i z. trail_sat p i;
          }

      -- the values are a common model
      pub true_common : {taken log : List (List ℕ)} → Sound cfg.variables taken log s → s.ok ≡ true → (assumptions : List ℕ)
          → Every (λ p. p ∈ s.vars.trail) assumptions → T (is_common cfg.variables taken assumptions s.vars.values)
      true_common {taken} k e ps h =
          let r = small_row cfg.variables s.vars.values w.vars.values all_set in
          row_common cfg.variables taken ps s.vars.values r
          (models_model cfg.variables s.vars.values taken w.vars.values k.range
          (k.covers e (row_of s.vars.values) (row_small cfg.variables s.vars.values r) agrees))
          (every_all (holds s.vars.values) ps (λ p i. trail_holds p (h p i)))

-- ---- FALSE

-- a stored clause false at level 0
pub level_zero_rup : {cfg : Config} {taken log : List (List ℕ)} {s : State} → WellFormed cfg s → Sound cfg.variables taken log s
    → decision_level s.vars ≡ 0 → (c : ℕ) → c < length s.store.clauses → Every (λ q. neg q ∈ s.vars.trail) (clause_at s.store c)
    → Rup (log ++ taken) []
level_zero_rup {s = s} w k z c h f S d _ =
    let x = k.known S d in
    (x.stored (clause_at s.store c) (get_or_in s.store.clauses c [] h)).clash
    (λ q i. x.fixed (neg q) (f q i) (omega (arith, trail_level w.vars (neg q) (f q i))))

-- there is no model without assumptions either
pub bad_follows : {n : ℕ} {taken log : List (List ℕ)} {s : State} → Sound n taken log s → s.ok ≡ false → Follows n taken []
bad_follows {n} {taken} {log} k e = rup_none n taken log k.logged (k.bad e)

pub bad_no_model : {n : ℕ} {taken log : List (List ℕ)} {s : State} → Sound n taken log s → s.ok ≡ false → NoModel n taken
bad_no_model {n} {taken} {log} k e = rup_no_model n taken log k.logged (k.bad e)

module _ {cfg : Config} {ps : List ℕ} {s s' : State} {final : List ℕ} (f : Failed cfg ps s s' final) where
  abbrev vs : VarState
  vs = s'.vars

  -- the negation of the false assumption
  abbrev pub p : ℕ
  p = neg (get_or ps (decision_level vs) 0)

  clause : FinalClause cfg.variables s'.store vs p final
  clause = rw f.clause (final_law cfg.variables s'.store vs f.searching.formed.vars p f.false_on)

  negated_in : Every (λ l. neg l ∈ ps) final
  negated_in =
      rw clause.is
      (every_cons (λ l. neg l ∈ ps) (rw (neg-neg (get_or ps (decision_level vs) 0)) (get_or_in ps (decision_level vs) 0 f.shallow))
      (λ l i.
      let d = clause.decisions l i in
      searching_decision f.searching (omega (arith, f.shallow)) (neg l) d.falsified (rw var-neg d.decided) (rw var-neg d.above)))

  in_range : Every (λ l. l < 2 * cfg.variables) final
  in_range =
      rw clause.is
      (every_cons (λ l. l < 2 * cfg.variables) (trail_range f.searching.formed.vars p f.false_on)
      (λ l i. rw neg-neg at (neg_range (neg l) cfg.variables (trail_range f.searching.formed.vars (neg l) (clause.decisions l i).falsified))))

  pub failed_finals : {taken log : List (List ℕ)} → Sound cfg.variables taken log s' → Finals cfg.variables taken log ps final
  failed_finals {taken} {log} k =
      let u = final_rup (log ++ taken) cfg.variables s'.store vs p final k.known clause in
      record {
        rup = u;
        follows = rup_taken cfg.variables taken log k.logged final u in_range;
        negated = every_all (λ l. has ps (neg l)) final (λ l i. in_has ps (neg l) (negated_in l i));
        some = rw clause.is (omega arith);
      }

-- ---- a clause answered 0

pub add_no_model : {cfg : Config} {taken log : List (List ℕ)} {s : State} → Ready cfg taken log s → 2 * cfg.variables ≤ undef_lit → (c : List ℕ)
    → Every (λ l. l < 2 * cfg.variables) c → (add_clause cfg s c).answer ≡ 0 → NoModel cfg.variables (taken ++ (c ∷ []))
unfolding fed
add_no_model {cfg} {taken} {log} k small c r e =
    rup_no_model cfg.variables (taken ++ (c ∷ [])) log (rw e at (add_ready k small c r).sound.logged) (add_refuted k small c r e)
