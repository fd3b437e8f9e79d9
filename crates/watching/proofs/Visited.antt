-- A visit of a watch keeps what is well-formed, where it sets the first literal too.
use Rattle.std.specs.Prelude.{◌≡◌, refl, true, false, ℕ, ◌≤◌, length}
use Rattle.std.proofs.Common.{sym, subst, arith, length-set, get_or-set_same}
use mathlib.Core.List.Memᴰ.{head as here}
use mathlib.Core.List.{List, [], ◌∷◌, ◌++◌}
use Rattle.model.specs.Lit.{neg, no_reason, is_true, is_false}
use Rattle.model.specs.Script.{Config}
use Rattle.model.specs.State.{Watch, State, with_vars}
use Rattle.model.specs.Propagate.{Looked, look}
use Rattle.lawbase.specs.Basics.{◌∈◌, Every, every_cons}
use Rattle.lawbase.specs.WellFormed.{WellFormed}
use Rattle.assign.proofs.Reading.{on_is_false}
use Rattle.assign.proofs.Searching.{qhead_formed}
use Rattle.assign.proofs.Enqueue.{enqueue_implied, enqueue_length, enqueue_old}
use Rattle.watching.specs.Look.{Outcome, blocker_true, first_true, new_found, all_false, unit, put, blocked_by}
use Rattle.watching.proofs.Look.{outcome}
use Rattle.watching.specs.Reorder.{listed, Looking}
use Rattle.watching.proofs.Reorder.{looking}
use Rattle.watching.specs.Visit.{Walking, Next, Falsified}
use Rattle.watching.proofs.Visit.{rest_of, first_of, looked_clause, first_set, stay_stored, seconded_assignment, whole, unit-unset, no_reason-clause, unit-implies, formed_snoc, stay_formed, go_formed, behind_false}

-- ---- what each outcome keeps

module _ {cfg : Config} {p q : ℕ} {kept : List Watch} {w : Watch} {rest : List Watch} {s : State} (v : Walking cfg p q kept (w ∷ rest) s)
    (k : Looking cfg p w s) where
  -- the first literal is set
  pub unit_formed : cfg.max_clauses ≤ no_reason → Every (λ l. is_false s.vars.values l ≡ true) (rest_of k)
      → is_true s.vars.values (first_of k) ≡ false → is_false s.vars.values (first_of k) ≡ false
      → WellFormed cfg
      (listed p (kept ++ (blocked_by w (first_of k) ∷ rest))
      (with_vars (put s w.clause (looked_clause k)) (first_set k)))
  unit_formed small r t f =
      record {
        store = stay_stored v k;
        vars = enqueue_implied (seconded_assignment v k) (first_of k) w.clause ((whole k).range (first_of k) (here refl)) (unit-unset v k t f) (no_reason-clause v k small)
            (unit-implies v k r);
        phases = v.formed.phases;
        signs = v.formed.signs;
        qhead = omega (arith, v.formed.qhead, enqueue_length s.vars (first_of k) w.clause);
      }

-- ---- well-formed

pub visit_formed : (cfg : Config) → cfg.max_clauses ≤ no_reason → (p head : ℕ) (kept : List Watch) (w : Watch) (rest : List Watch) (s : State)
    → Walking cfg p head kept (w ∷ rest) s → Next p (Walking cfg p head) (Falsified cfg) kept w rest (look p w s)
visit_formed cfg small p head kept w rest s v =
    let k = looking cfg p kept w rest s v.formed v.on in
    go k (look p w s) (outcome p w s (first_of k) (rest_of k) k.shape.shape)
  where
    go : (k : Looking cfg p w s) (o : Looked) → Outcome p w s (first_of k) (rest_of k) o → Next p (Walking cfg p head) (Falsified cfg) kept w rest o
    go k o (blocker_true e) = record { formed = formed_snoc cfg p kept w rest s v.formed; on = v.on; head = v.head }
    go k o (first_true e) =
        record {
          formed = formed_snoc cfg p kept (blocked_by w (first_of k)) rest (put s w.clause (looked_clause k))
              (stay_formed v k);
          on = v.on;
          head = v.head;
        }
    go k o (new_found j hj t f) = record { formed = go_formed v k j hj t; on = v.on; head = v.head }
    go k o (all_false r f) =
        record {
          formed = qhead_formed (stay_formed v k) (length s.vars.trail) (omega arith);
          stored = omega (arith, length-set s.store.clauses w.clause (looked_clause k), k.inside);
          falses = subst (λ c. Every (λ l. neg l ∈ s.vars.trail) c) (sym (get_or-set_same s.store.clauses w.clause (looked_clause k) [] k.inside))
              (every_cons (λ l. neg l ∈ s.vars.trail) (on_is_false v.formed.vars (first_of k) ((whole k).range (first_of k) (here refl)) f)
              (behind_false v k r));
          head = refl;
        }
    go k o (unit r t f) =
        record {
          formed = formed_snoc cfg p kept (blocked_by w (first_of k)) rest
              (with_vars (put s w.clause (looked_clause k)) (first_set k))
              (unit_formed v k small r t f);
          on = enqueue_old s.vars (first_of k) w.clause p v.on;
          head = v.head;
        }
