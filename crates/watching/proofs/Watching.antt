-- What `propagate` keeps besides: the clauses are covered, and what is not propagated is of the present level.
use Rattle.std.specs.Prelude.{◌≡◌, refl, ◌⊎◌, List, [], ◌∷◌, ◌++◌, ℕ, ◌+◌, ◌*◌, ◌≤◌, ◌<◌, length, get_or, set, drop, take}
use Rattle.std.proofs.Common.{ap, sym, ◌∙◌, subst, inl, inr, append-nil, not-suc-le-zero, le_of_suc-le-suc, add-one, arith, get_or-set_same, take-suc, drop-drop}
use mathlib.Core.List.Memᴰ.{append_cases}
use mathlib.Core.List.Memᴰ.{eq_of_singleton as only}
use mathlib.Core.List.Memᴰ.{head as here}
use Rattle.std.proofs.Math.Seq.{take-length}
use Rattle.model.specs.Lit.{neg, no_reason}
use Rattle.model.specs.Script.{Config}
use Rattle.model.specs.State.{Watch, VarState, State, level_lit, reason_lit, decision_level, clause_at, with_qhead}
use Rattle.model.specs.Propagate.{Looked, look, Propagated, propagate}
use Rattle.lawbase.specs.Basics.{◌∈◌, Every, split, less?, neg-neg, neg_range}
use Rattle.lawbase.specs.WellFormed.{Proper, times, Watched, WellFormed}
use Rattle.assign.proofs.Lists.{get_or_in, get_or_in_drop, get_or_in_take, in_drop, in_take}
use Rattle.assign.specs.Reading.{Unset, Valued, is_set, is_negated, is_unset}
use Rattle.assign.proofs.Reading.{valued, not_both, trail_level}
use Rattle.assign.proofs.Enqueue.{enqueue_cases, enqueue_limits, new_level, new_reason}
use Rattle.watching.proofs.Permuted.{perm_in}
use Rattle.watching.proofs.Store.{bit_same}
use Rattle.watching.specs.Look.{Outcome, blocker_true, first_true, new_found, all_false, unit, put, blocked_by}
use Rattle.watching.proofs.Look.{outcome}
use Rattle.watching.specs.Reorder.{listed, Looking}
use Rattle.watching.proofs.Reorder.{looking}
use Rattle.watching.specs.Visit.{stopped, Ended, walked, clashed, Next, Walking, Falsified}
use Rattle.watching.proofs.Visit.{first_of, rest_of, looked_clause, moved_clause, first_set, whole, unmoved, not_first, unit-unset, walk}
use Rattle.watching.proofs.Visited.{visit_formed}
use Rattle.watching.specs.Propagate.{taken, turn, Turned, onward, halted, Finished}
use Rattle.watching.proofs.Propagate.{turn_starts, finish}
use Rattle.watching.specs.Covered.{Witness, Covered, Tied, Grown}
use Rattle.watching.proofs.Covered.{level_neg, witness_in, covered_set, cut_cases}
use Rattle.watching.specs.Cover.{Covering, Queued, Left}
use Rattle.watching.proofs.Cover.{head_inside, enqueue_grown, enqueue_queued, tie_grown, reorder_tied, two_cases, first_covered, blocker_covered, first_true_covered, new_covered, unit_covered}
use Rattle.watching.specs.Watching.{Below, Conflict, Watching, Settled, satisfied, open_two}

-- what is below the present level is propagated
pub below_taken : (vs : VarState) (q r l : ℕ) → Queued vs q → Below vs r l → l ∈ take q vs.trail
below_taken vs q r l f b = split (cut_cases q vs.trail b.0) (λ i. i) (λ i. absurd (omega (arith, f l i, b.1)))

module _ {cfg : Config} {p q : ℕ} {kept : List Watch} {w : Watch} {rest : List Watch} {s : State} (v : Covering cfg p q kept (w ∷ rest) s)
    (k : Looking cfg p w s) where
  below_left : (r l : ℕ) → Below s.vars r l → Left p q (w ∷ rest) s.vars r l
  below_left r l b =
      (below_taken s.vars q r l v.queued b, λ e. absurd (omega (arith, b.1, v.top, ap (level_lit s.vars) e)))

  clash_covered : Covered (set s.store.clauses w.clause (looked_clause k)) s.vars (Below s.vars)
  clash_covered = covered_set v.covered w.clause (looked_clause k) k.inside (λ r l n b. below_left r l b) own
    where
      own : (x : ℕ) → x ∈ take 2 (looked_clause k) → Below s.vars w.clause (neg x) → Witness s.vars (looked_clause k) (level_lit s.vars x)
      own x i b =
          split (two_cases i)
          (λ e. witness_in (perm_in k.shape.permuted) (first_covered v k x e (below_taken s.vars q w.clause (neg x) v.queued b)))
          (λ e. absurd (omega (arith, b.1, v.top, level_neg s.vars x, ap (level_lit s.vars) e, level_neg s.vars p)))

  seconded_tied : Every (Tied (set s.store.clauses w.clause (looked_clause k)) s.vars) s.vars.trail
  seconded_tied = reorder_tied v.walking.formed.vars w.clause (looked_clause k) (unmoved v.walking k) v.tied

  clash_conflict : Falsified cfg w.clause (stopped p (kept ++ (blocked_by w (first_of k) ∷ rest)) (put s w.clause (looked_clause k)))
      → Conflict cfg w.clause (stopped p (kept ++ (blocked_by w (first_of k) ∷ rest)) (put s w.clause (looked_clause k)))
  clash_conflict f =
      record {
        falsified = f;
        covered = clash_covered;
        tied = seconded_tied;
        first = ap (λ c. level_lit s.vars (get_or c 0 0)) put_same ∙ top_first;
        second = ap (λ c. level_lit s.vars (get_or c 1 0)) put_same ∙ level_neg s.vars p ∙ v.top;
      }
    where
      put_same : get_or (set s.store.clauses w.clause (looked_clause k)) w.clause [] ≡ looked_clause k
      put_same = get_or-set_same s.store.clauses w.clause (looked_clause k) [] k.inside

      falses : Every (λ l. neg l ∈ s.vars.trail) (looked_clause k)
      falses = subst (λ c. Every (λ l. neg l ∈ s.vars.trail) c) put_same f.falses

      false_witness : {d : ℕ} → Witness s.vars (looked_clause k) d → ⊥
      false_witness x = not_both v.walking.formed.vars x.literal x.set (falses x.literal x.member)

      -- were its first literal of a lower level, the clause would have a true one
      low_first : level_lit s.vars (first_of k) < decision_level s.vars → ⊥
      low_first l =
          false_witness
          (witness_in (perm_in k.shape.permuted)
          (first_covered v k (first_of k) refl
          (below_taken s.vars q w.clause (neg (first_of k)) v.queued
          (falses (first_of k) (here refl), omega (arith, l, level_neg s.vars (first_of k))))))

      top_first : level_lit s.vars (first_of k) ≡ decision_level s.vars
      top_first =
          let t = trail_level v.walking.formed.vars (neg (first_of k)) (falses (first_of k) (here refl)) in
          split (less? (level_lit s.vars (first_of k)) (decision_level s.vars))
          (λ l. absurd (low_first l))
          (λ l. (omega (arith, l, level_neg s.vars (first_of k), t)))

  unit_tied : Unset s.vars (first_of k) → Every (Tied (set s.store.clauses w.clause (looked_clause k)) (first_set k)) (first_set k).trail
  unit_tied u x i =
      split (enqueue_cases s.vars (first_of k) w.clause x i)
      (λ j. tie_grown grown j (seconded_tied x j))
      (λ e. subst (λ y. Tied (set s.store.clauses w.clause (looked_clause k)) (first_set k) y) (sym e) own)
    where
      grown : Grown s.vars (first_set k)
      grown = enqueue_grown v.walking.formed.vars (first_of k) w.clause u

      range : first_of k < 2 * cfg.variables
      range = (whole k).range (first_of k) (here refl)

      clause_is : get_or (set s.store.clauses w.clause (looked_clause k)) (reason_lit (first_set k) (first_of k)) [] ≡ looked_clause k
      clause_is =
          ap (λ r. get_or (set s.store.clauses w.clause (looked_clause k)) r []) (new_reason v.walking.formed.vars (first_of k) w.clause range)
          ∙ get_or-set_same s.store.clauses w.clause (looked_clause k) [] k.inside

      own : Tied (set s.store.clauses w.clause (looked_clause k)) (first_set k) (first_of k)
      own z =
          record {
            literal = neg p;
            member = subst (λ c. neg p ∈ drop 1 c) (sym clause_is) (here refl);
            set = subst (λ y. y ∈ (first_set k).trail) (sym (neg-neg p)) (grown.on p v.walking.on);
            level = level_neg (first_set k) p ∙ grown.level p v.walking.on ∙ v.top
                ∙ sym (new_level v.walking.formed.vars (first_of k) w.clause range);
          }

-- one watch
pub visit_covers : (cfg : Config) → cfg.max_clauses ≤ no_reason → (p q : ℕ) (kept : List Watch) (w : Watch) (rest : List Watch) (s : State)
    → Covering cfg p q kept (w ∷ rest) s → Next p (Covering cfg p q) (Conflict cfg) kept w rest (look p w s)
visit_covers cfg small p q kept w rest s v =
    let k = looking cfg p kept w rest s v.walking.formed v.walking.on in
    go k (look p w s) (outcome p w s (first_of k) (rest_of k) k.shape.shape) (visit_formed cfg small p q kept w rest s v.walking)
  where
    go : (k : Looking cfg p w s) (o : Looked) → Outcome p w s (first_of k) (rest_of k) o → Next p (Walking cfg p q) (Falsified cfg) kept w rest o
        → Next p (Covering cfg p q) (Conflict cfg) kept w rest o
    go k o (blocker_true e) f = record { walking = f; top = v.top; queued = v.queued; covered = blocker_covered v k e; tied = v.tied }
    go k o (first_true e) f =
        record { walking = f; top = v.top; queued = v.queued; covered = first_true_covered v k e; tied = seconded_tied v k }
    go k o (new_found j hj t n) f =
        record {
          walking = f;
          top = v.top;
          queued = v.queued;
          covered = new_covered v k j hj n;
          tied = reorder_tied v.walking.formed.vars w.clause (moved_clause k j) (inr (not_first v.walking k t)) v.tied;
        }
    go k o (all_false r n) f = clash_conflict v k f
    go k o (unit r t n) f =
        let u = unit-unset v.walking k t n in
        record {
          walking = f;
          top = (enqueue_grown v.walking.formed.vars (first_of k) w.clause u).level p v.walking.on ∙ v.top
              ∙ ap length (sym (enqueue_limits s.vars (first_of k) w.clause));
          queued = enqueue_queued v.walking.formed.vars (first_of k) w.clause ((whole k).range (first_of k) (here refl)) u q (head_inside v k) v.queued;
          covered = unit_covered v k u;
          tied = unit_tied v k u;
        }

-- ---- one turn

-- a watched literal's negation has the clause in its list
watched_listed : (n : ℕ) (cs : List (List ℕ)) (ws : List (List Watch)) (r x : ℕ) → Watched n cs ws → r < length cs → 2 ≤ length (get_or cs r [])
    → x ∈ take 2 (get_or cs r []) → neg x < 2 * n → 0 < times r (get_or ws (neg x) [])
watched_listed n cs ws r x h hr two i hx =
    split (first_two (get_or cs r []) two i)
    (λ e. (omega (arith, h.twice r (neg x) hr hx, bit_same (neg x) (neg (get_or (get_or cs r []) 0 0)) (ap neg e))))
    (λ e. (omega (arith, h.twice r (neg x) hr hx, bit_same (neg x) (neg (get_or (get_or cs r []) 1 0)) (ap neg e))))
  where
    first_two : (c : List ℕ) → 2 ≤ length c → x ∈ take 2 c → (x ≡ get_or c 0 0) ⊎ (x ≡ get_or c 1 0)
    first_two [] t j = absurd (not-suc-le-zero t)
    first_two (a ∷ []) t j = absurd (not-suc-le-zero (le_of_suc-le-suc t))
    first_two (a ∷ b ∷ c) t j = two_cases j

take_next : {x : ℕ} (l : List ℕ) (q : ℕ) → q < length l → x ∈ take (q + 1) l → (x ∈ take q l) ⊎ (x ≡ get_or l q 0)
take_next {x} l q h i =
    split (append_cases (take q l) (subst (λ m. x ∈ m) (take-suc l q 0 h) (subst (λ k. x ∈ take k l) (add-one q) i))) inl (λ j. inr (only j))

drop_next : {x : ℕ} (l : List ℕ) (q : ℕ) → x ∈ drop (q + 1) l → x ∈ drop q l
drop_next {x} l q i = in_drop 1 (drop q l) (subst (λ m. x ∈ m) (sym (drop-drop 1 q l)) i)

pub turn_covers_start : (cfg : Config) (s : State) → Watching cfg s → s.qhead < length s.vars.trail
    → Covering cfg (taken s) (s.qhead + 1) [] (get_or s.store.watches (taken s) []) (with_qhead s (s.qhead + 1))
turn_covers_start cfg s v lt =
    record {
      walking = turn_starts cfg s v.formed lt;
      top = v.queued (taken s) (get_or_in_drop s.vars.trail s.qhead s.qhead 0 (omega arith) lt);
      queued = λ l i. v.queued l (drop_next s.vars.trail s.qhead i);
      covered = record { cover = cover };
      tied = v.tied;
    }
  where
    proper : (r : ℕ) → r < length s.store.clauses → Proper cfg.variables (get_or s.store.clauses r [])
    proper r hr = v.formed.store.proper (get_or s.store.clauses r []) (get_or_in s.store.clauses r [] hr)

    cover : (r : ℕ) → r < length s.store.clauses → (x : ℕ) → x ∈ take 2 (get_or s.store.clauses r [])
        → Left (taken s) (s.qhead + 1) (get_or s.store.watches (taken s) []) s.vars r (neg x)
        → Witness s.vars (get_or s.store.clauses r []) (level_lit s.vars x)
    cover r hr x i d =
        split (take_next s.vars.trail s.qhead lt d.0)
        (λ j. v.covered.cover r hr x i j)
        (λ e. absurd (omega (
          arith,
          d.1 e,
          ap (λ y. times r (get_or s.store.watches y [])) e,
          watched_listed cfg.variables s.store.clauses s.store.watches r x v.formed.store.watched hr (proper r hr).two i
              (neg_range x cfg.variables ((proper r hr).range x (in_take 2 (get_or s.store.clauses r []) i))),
        )))

turn_covered : (cfg : Config) (p q : ℕ) (r : Propagated) → Ended p (Covering cfg p (q + 1)) (Conflict cfg) r → Turned (Watching cfg) (Conflict cfg) q r
turn_covered cfg p q r (walked kept s v) =
    onward (listed p kept s)
    (record {
      formed = subst (λ l. WellFormed cfg (listed p l s)) (append-nil kept) v.walking.formed;
      queued = subst (λ h. Queued s.vars h) (sym v.walking.head) v.queued;
      covered = record { cover = λ k hk x i d. v.covered.cover k hk x i (subst (λ h. neg x ∈ take h s.vars.trail) v.walking.head d, λ e. refl) };
      tied = v.tied;
    })
    (omega (arith, v.walking.head))
turn_covered cfg p q r (clashed c s f) = halted c s f

module _ (cfg : Config) (small : cfg.max_clauses ≤ no_reason) where
  pub turn_watching : (s : State) → Watching cfg s → s.qhead < length s.vars.trail → Turned (Watching cfg) (Conflict cfg) s.qhead (turn s)
  turn_watching s h lt =
      turn_covered cfg (taken s) s.qhead (turn s)
      (walk (taken s) (Covering cfg (taken s) (s.qhead + 1)) (Conflict cfg) (visit_covers cfg small (taken s) (s.qhead + 1))
      (get_or s.store.watches (taken s) []) [] (with_qhead s (s.qhead + 1)) (turn_covers_start cfg s h lt))

  -- `propagate` keeps it, and empties the queue or finds a false clause
  pub propagate_watching : (k : ℕ) (s : State) → Watching cfg s → cfg.variables ≤ s.qhead + k → Finished (Watching cfg) (Conflict cfg) (propagate k s)
  propagate_watching = finish cfg (Watching cfg) (Conflict cfg) (λ s h. h.formed) turn_watching

-- ---- propagation as published

pub settled : (cfg : Config) (s : State) → Watching cfg s → s.qhead ≡ length s.vars.trail → (r : ℕ) → r < length s.store.clauses
    → Settled s.vars (clause_at s.store r)
settled cfg s h e r hr = one (look_at 0 (omega (arith, proper.two))) (look_at 1 (omega (arith, proper.two)))
  where
    proper : Proper cfg.variables (clause_at s.store r)
    proper = h.formed.store.proper (clause_at s.store r) (get_or_in s.store.clauses r [] hr)

    done : (l : ℕ) → l ∈ s.vars.trail → l ∈ take s.qhead s.vars.trail
    done l i = subst (λ m. l ∈ m) (sym (ap (λ k. take k s.vars.trail) e ∙ take-length s.vars.trail)) i

    watched : (i : ℕ) → i < 2 → get_or (clause_at s.store r) i 0 ∈ take 2 (clause_at s.store r)
    watched i lt = get_or_in_take (clause_at s.store r) 2 i 0 lt (omega (arith, proper.two))

    true_of : (x : ℕ) → Witness s.vars (clause_at s.store r) x → Settled s.vars (clause_at s.store r)
    true_of x w = satisfied w.literal w.member w.set

    look_at : (i : ℕ) → i < 2 → Settled s.vars (clause_at s.store r) ⊎ Unset s.vars (get_or (clause_at s.store r) i 0)
    look_at i lt =
        go (valued h.formed.vars (get_or (clause_at s.store r) i 0)
        (proper.range (get_or (clause_at s.store r) i 0) (get_or_in (clause_at s.store r) i 0 (omega (arith, proper.two)))))
      where
        go : Valued s.vars (get_or (clause_at s.store r) i 0) → Settled s.vars (clause_at s.store r) ⊎ Unset s.vars (get_or (clause_at s.store r) i 0)
        go (is_set j y) = inl (satisfied (get_or (clause_at s.store r) i 0) (get_or_in (clause_at s.store r) i 0 (omega (arith, proper.two))) j)
        go (is_negated j y) =
            inl (true_of (level_lit s.vars (get_or (clause_at s.store r) i 0))
            (h.covered.cover r hr (get_or (clause_at s.store r) i 0) (watched i lt) (done (neg (get_or (clause_at s.store r) i 0)) j)))
        go (is_unset f u y) = inr u

    one : Settled s.vars (clause_at s.store r) ⊎ Unset s.vars (get_or (clause_at s.store r) 0 0)
        → Settled s.vars (clause_at s.store r) ⊎ Unset s.vars (get_or (clause_at s.store r) 1 0) → Settled s.vars (clause_at s.store r)
    one (inl x) b = x
    one (inr a) (inl x) = x
    one (inr a) (inr b) = open_two a b
