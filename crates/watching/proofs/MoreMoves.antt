-- Going back, deciding, and the step after a conflict keep the clauses covered.
use Rattle.std.specs.Prelude.{◌≡◌, true, List, [], ◌∷◌, reverse, ℕ, ◌-◌, ◌≤◌, get_or}
use Rattle.std.proofs.Common.{sym, ◌∙◌, subst, arith}
use Rattle.std.proofs.Math.ListN.{length}
use Rattle.std.proofs.lemmas.List.{length-reverse}
use Rattle.model.specs.Lit.{var, neg, no_reason, l_undef}
use Rattle.model.specs.Script.{Config}
use Rattle.model.specs.State.{State, level_lit, decision_level, with_store, with_vars}
use Rattle.model.specs.Store.{has_room, attach_clause}
use Rattle.model.specs.Trail.{unchecked_enqueue, new_decision_level, cancel_until}
use Rattle.model.specs.Decide.{open_level}
use Rattle.lawbase.specs.Basics.{◌∈◌, Every}
use Rattle.lawbase.specs.WellFormed.{Ground, decided, Proper}
use Rattle.assign.specs.Reading.{Unset}
use Rattle.assign.proofs.Enqueue.{enqueue_limits, new_level, new_reason}
use Rattle.assign.proofs.Level.{level_trail, level_values, level_more, level_new}
use Rattle.assign.proofs.Cancel.{until_level}
use Rattle.assign.specs.Back.{cut}
use Rattle.assign.proofs.Back.{cancel_low, cancel_cases, cancel_level}
use Rattle.assign.specs.Pick.{Free}
use Rattle.assign.proofs.Decide.{opened-empty}
use Rattle.assign.specs.Learn.{Asserting, with_unit, with_learnt}
use Rattle.assign.proofs.Learn.{uip_range, uip-unset, rest_false}
use Rattle.watching.specs.Watching.{Watching}
use Rattle.watching.specs.Moves.{Returning}
use Rattle.watching.proofs.Moves.{cut_watching, watching_returning, enqueue_watching, level_watching, fixed_watching, back_watching, lower, learnt_watching, same_level}

-- ---- going back

pub cancel_watching : {cfg : Config} {s : State} → Watching cfg s → (phase level : ℕ) → Watching cfg (cancel_until phase s level)
cancel_watching {cfg} {s} h phase level =
    cancel_cases phase s level (λ x. Watching cfg x) (λ _. h) (λ low. cut_watching (watching_returning h) phase level low)

module _ {cfg : Config} {s : State} (h : Returning cfg s) where
  pub returning_cancel : (phase level : ℕ) → Returning cfg (cancel_until phase s level)
  returning_cancel phase level =
      cancel_cases phase s level (λ x. Returning cfg x) (λ _. h) (λ low. watching_returning (cut_watching h phase level low))

-- ---- levels and literals

-- a decision, on a level of its own
pub decision_watching : {cfg : Config} {s : State} → Watching cfg s → s.qhead ≡ length s.vars.trail → (p : ℕ) → Free cfg.variables s p
    → Watching cfg (open_level s p)
unfolding open_level
decision_watching {cfg} {s} h e p f =
    enqueue_watching (level_watching h e) p no_reason f.range (subst (λ l. get_or l (var p) 0 ≡ l_undef) (sym (level_values s.vars)) f.unset) grounds
    (λ n. absurd (n (new_reason (opened-empty h.formed).vars p no_reason f.range)))
  where
    grounds : Ground s.store.clauses (unchecked_enqueue (new_decision_level s.vars) p no_reason) p (reverse (new_decision_level s.vars).trail)
    grounds =
        let m = level_more s.vars in
        let l = new_level (opened-empty h.formed).vars p no_reason f.range in
        let d : level_lit (unchecked_enqueue (new_decision_level s.vars) p no_reason) p - 1 ≡ decision_level s.vars = omega arith in
        decided (new_reason (opened-empty h.formed).vars p no_reason f.range) (omega arith)
        (rw (d, enqueue_limits (new_decision_level s.vars) p no_reason, level_trail s.vars, length-reverse s.vars.trail) (level_new s.vars))

-- ---- the steps after a conflict, as `search` does them

module _ {cfg : Config} {s : State} (h : Returning cfg s) (uip : ℕ) where
  pub with_unit_watching : Asserting s.vars 0 uip [] → Watching cfg (with_unit cfg.phase s uip)
  with_unit_watching a =
      fixed_watching (back_watching h cfg.phase 0 (lower h uip 0 a)) uip (uip_range h.formed.vars a)
      (uip-unset cfg.phase s 0 h.formed.vars uip a) (omega (arith, cancel_level cfg.phase s 0 h.formed.vars))

  pub with_learnt_watching : cfg.max_clauses ≤ no_reason → (level second : ℕ) (more : List ℕ) → Asserting s.vars level uip (second ∷ more)
      → level_lit s.vars second ≡ level → has_room cfg s.store (uip ∷ second ∷ more) ≡ true → Proper cfg.variables (uip ∷ second ∷ more)
      → Watching cfg (with_learnt cfg.phase s level uip (second ∷ more))
  with_learnt_watching small level second more a e room proper =
      subst (λ (x : State). P x) (sym low)
      (learnt_watching small (cut_watching h cfg.phase level (lower h uip level a)) uip second more room proper
      (subst (λ (x : State). Unset x.vars uip) low (uip-unset cfg.phase s level h.formed.vars uip a))
      (subst (λ (x : State). Every (λ q. neg q ∈ x.vars.trail) (second ∷ more)) low (rest_false cfg.phase s level h.formed.vars uip a))
      (same_level h cfg.phase level (lower h uip level a) second ∙ e ∙ sym (until_level h.formed.vars level (lower h uip level a))))
    where
      low : cancel_until cfg.phase s level ≡ cut cfg.phase s level
      low = cancel_low cfg.phase s level (lower h uip level a)

      P : State → Type 0
      P x = Watching cfg
          (with_store (with_vars x (unchecked_enqueue x.vars uip (length s.store.clauses))) (attach_clause x.store (uip ∷ second ∷ more)))
