-- A walk keeps the clauses covered, but for those that it has not come to yet.
use Rattle.std.specs.Prelude.{◌≡◌, refl, ◌≢◌, ◌⊎◌, true, false, List, [], ◌∷◌, ℕ, ◌*◌, ◌≤◌, ◌<◌, length, get_or, set, drop, take}
use Rattle.std.proofs.Common.{ap, sym, ◌∙◌, subst, inl, inr, true≢false, arith, get_or-set_other}
use mathlib.Core.List.Memᴰ.{eq_of_singleton as only}
use mathlib.Core.List.Memᴰ.{head as here}
use mathlib.Core.List.Memᴰ.{tail as there}
use Rattle.std.proofs.lemmas.List.{set-get_or, take-append-le, drop-append-le}
use Rattle.model.specs.Lit.{var, neg, no_reason, is_true, is_false}
use Rattle.model.specs.Script.{Config}
use Rattle.model.specs.State.{Watch, VarState, State, level_lit, reason_lit, decision_level, clause_at}
use Rattle.model.specs.Trail.{unchecked_enqueue}
use Rattle.lawbase.specs.Basics.{◌∈◌, Every, every_append, every_one, split, var-neg}
use Rattle.lawbase.specs.WellFormed.{Assignment}
use Rattle.assign.proofs.Lists.{in_take, in_drop}
use Rattle.assign.specs.Reading.{Unset}
use Rattle.assign.proofs.Reading.{unset-fresh, trail_level, is_false_on, on_is_true}
use Rattle.assign.proofs.Reasons.{reason_first}
use Rattle.assign.proofs.Enqueue.{enqueue_level, enqueue_reason, enqueue_old, enqueue_new, new_level}
use Rattle.watching.proofs.Permuted.{perm_in}
use Rattle.watching.proofs.Store.{times_else}
use Rattle.watching.specs.Reorder.{Looking}
use Rattle.watching.proofs.Visit.{first_of, rest_of, looked_clause, moved_clause, first_set, whole, new_permuted}
use Rattle.watching.specs.Covered.{Witness, Covered, Tie, Tied, Grown}
use Rattle.watching.proofs.Covered.{witness_of, level_neg, witness_in, covered_grown, covered_set}
use Rattle.watching.specs.Cover.{Queued, Left, Covering}

-- ---- enqueueing

pub enqueue_grown : {n : ℕ} {cs : List (List ℕ)} {vs : VarState} → Assignment n cs vs → (p from : ℕ) → Unset vs p → Grown vs (unchecked_enqueue vs p from)
enqueue_grown {vs = vs} h p from u =
    record {
      on = enqueue_old vs p from;
      level = λ x i. enqueue_level vs p from (var x) (unset-fresh h p u x i);
      reason = λ x i. enqueue_reason vs p from (var x) (unset-fresh h p u x i);
    }

pub enqueue_queued : {n : ℕ} {cs : List (List ℕ)} {vs : VarState} → Assignment n cs vs → (p from : ℕ) → p < 2 * n → Unset vs p → (q : ℕ)
    → q ≤ length vs.trail → Queued vs q → Queued (unchecked_enqueue vs p from) q
unfolding unchecked_enqueue
enqueue_queued {vs = vs} h p from hp u q le f =
    subst (λ l. Every (λ x. level_lit (unchecked_enqueue vs p from) x ≡ decision_level vs) l) (sym (drop-append-le q vs.trail (p ∷ []) le))
    (every_append (λ x. level_lit (unchecked_enqueue vs p from) x ≡ decision_level vs) (drop q vs.trail)
    (λ x i. enqueue_level vs p from (var x) (unset-fresh h p u x (in_drop q vs.trail i)) ∙ f x i)
    (every_one (λ x. level_lit (unchecked_enqueue vs p from) x ≡ decision_level vs) (new_level h p from hp)))

pub enqueue_take : (vs : VarState) (p from q : ℕ) → q ≤ length vs.trail → take q (unchecked_enqueue vs p from).trail ≡ take q vs.trail
unfolding unchecked_enqueue
enqueue_take vs p from q le = take-append-le q vs.trail (p ∷ []) le

-- ---- ties

pub tie_grown : {cs : List (List ℕ)} {vs vs' : VarState} {p : ℕ} → Grown vs vs' → p ∈ vs.trail → Tied cs vs p → Tied cs vs' p
tie_grown {cs} {vs} {vs'} {p} g i h z =
    let t = h (λ e. z (g.reason p i ∙ e)) in
    record {
      literal = t.literal;
      member = subst (λ r. t.literal ∈ drop 1 (get_or cs r [])) (sym (g.reason p i)) t.member;
      set = g.on (neg t.literal) t.set;
      level = sym (level_neg vs' t.literal) ∙ g.level (neg t.literal) t.set ∙ level_neg vs t.literal ∙ t.level ∙ sym (g.level p i);
    }

-- a clause that is no reason may be reordered
pub reorder_tied : {n : ℕ} {cs : List (List ℕ)} {vs : VarState} → Assignment n cs vs → (r : ℕ) (d : List ℕ)
    → (get_or cs r [] ≡ d) ⊎ (get_or (get_or cs r []) 0 0 ∈ vs.trail → ⊥) → Every (Tied cs vs) vs.trail → Every (Tied (set cs r d) vs) vs.trail
reorder_tied {n} {cs} {vs} h r d (inl e) t = subst (λ x. Every (Tied x vs) vs.trail) (sym (set-get_or cs r []) ∙ ap (set cs r) e) t
reorder_tied {n} {cs} {vs} h r d (inr f) t = λ p i z. other p (t p i z) (λ e. never p i z e)
  where
    never : (p : ℕ) → p ∈ vs.trail → reason_lit vs p ≢ no_reason → reason_lit vs p ≡ r → ⊥
    never p i z e = f (subst (λ x. x ∈ vs.trail) (sym (reason_first h p i z) ∙ ap (λ j. get_or (get_or cs j []) 0 0) e) i)

    other : (p : ℕ) → Tie cs vs p → reason_lit vs p ≢ r → Tie (set cs r d) vs p
    other p k m =
        record {
          literal = k.literal;
          member = subst (λ c. k.literal ∈ drop 1 c) (sym (get_or-set_other cs r (reason_lit vs p) d [] m)) k.member;
          set = k.set;
          level = k.level;
        }

-- ---- the first two literals

pub two_cases : {x a b : ℕ} → x ∈ (a ∷ b ∷ []) → (x ≡ a) ⊎ (x ≡ b)
two_cases (here e) = inl e
two_cases (there i) = inr (only i)

-- ---- what a walk over the watches of p leaves to do

module _ {cfg : Config} {p q : ℕ} {kept : List Watch} {w : Watch} {rest : List Watch} {s : State} (v : Covering cfg p q kept (w ∷ rest) s)
    (k : Looking cfg p w s) where
  assigned : Assignment cfg.variables s.store.clauses s.vars
  assigned = v.walking.formed.vars

  pub head_inside : q ≤ length s.vars.trail
  head_inside = omega (arith, v.walking.formed.qhead, v.walking.head)

  others : (r l : ℕ) → r ≢ w.clause → Left p q rest s.vars r l → Left p q (w ∷ rest) s.vars r l
  others r l n d = (d.0, λ e. times_else r w rest (λ z. n (sym z)) ∙ d.1 e)

  first_two : (x : ℕ) → x ∈ take 2 (clause_at s.store w.clause) → (x ≡ first_of k) ⊎ (x ≡ neg p)
  first_two x i =
      split k.shape.moved
      (λ e. two_cases (subst (λ c. x ∈ take 2 c) e i))
      (λ e. split (two_cases (subst (λ c. x ∈ take 2 c) e i)) inr inl)

  first_in : first_of k ∈ take 2 (clause_at s.store w.clause)
  first_in =
      split k.shape.moved
      (λ e. subst (λ c. first_of k ∈ take 2 c) (sym e) (here refl))
      (λ e. subst (λ c. first_of k ∈ take 2 c) (sym e) (there (here refl)))

  first_other : neg (first_of k) ≢ p
  first_other e = (whole k).distinct.0 (neg p) (here refl) (var-neg p ∙ ap var (sym e) ∙ var-neg (first_of k))

  -- the other watched literal is covered as before
  pub first_covered : (x : ℕ) → x ≡ first_of k → neg x ∈ take q s.vars.trail → Witness s.vars (clause_at s.store w.clause) (level_lit s.vars x)
  first_covered x e i =
      witness_of e
      (v.covered.cover w.clause k.inside (first_of k) first_in (subst (λ y. neg y ∈ take q s.vars.trail) e i, λ z. absurd (first_other z)))

  -- a true literal covers the false one, which is of the present level
  true_covers : (c : List ℕ) (y x : ℕ) → y ∈ c → y ∈ s.vars.trail → x ≡ neg p → Witness s.vars c (level_lit s.vars x)
  true_covers c y x i j e =
      witness_of e (record { literal = y; member = i; set = j; low = omega (arith, trail_level assigned y j, level_neg s.vars p, v.top) })

  pub blocker_covered : is_true s.vars.values w.blocker ≡ true → Covered s.store.clauses s.vars (Left p q rest s.vars)
  blocker_covered e =
      subst (λ cs. Covered cs s.vars (Left p q rest s.vars)) (set-get_or s.store.clauses w.clause [])
      (covered_set v.covered w.clause (clause_at s.store w.clause) k.inside others own)
    where
      own : (x : ℕ) → x ∈ take 2 (clause_at s.store w.clause) → Left p q rest s.vars w.clause (neg x)
          → Witness s.vars (clause_at s.store w.clause) (level_lit s.vars x)
      own x i d =
          split (first_two x i)
          (λ z. first_covered x z d.0)
          (λ z. true_covers (clause_at s.store w.clause) w.blocker x k.blocker
          (on_is_true assigned w.blocker (k.proper.range w.blocker k.blocker) e) z)

  pub first_true_covered : is_true s.vars.values (first_of k) ≡ true
      → Covered (set s.store.clauses w.clause (looked_clause k)) s.vars (Left p q rest s.vars)
  first_true_covered e = covered_set v.covered w.clause (looked_clause k) k.inside others own
    where
      own : (x : ℕ) → x ∈ take 2 (looked_clause k) → Left p q rest s.vars w.clause (neg x) → Witness s.vars (looked_clause k) (level_lit s.vars x)
      own x i d =
          split (two_cases i)
          (λ z. witness_in (perm_in k.shape.permuted) (first_covered x z d.0))
          (λ z. true_covers (looked_clause k) (first_of k) x (here refl)
          (on_is_true assigned (first_of k) ((whole k).range (first_of k) (here refl)) e) z)

  pub new_covered : (j : ℕ) → j < length (rest_of k) → is_false s.vars.values (get_or (rest_of k) j 0) ≡ false
      → Covered (set s.store.clauses w.clause (moved_clause k j)) s.vars (Left p q rest s.vars)
  new_covered j hj f = covered_set v.covered w.clause (moved_clause k j) k.inside others own
    where
      -- the literal found is not false
      never : neg (get_or (rest_of k) j 0) ∈ s.vars.trail → ⊥
      never i = true≢false (sym (is_false_on assigned (get_or (rest_of k) j 0) i) ∙ f)

      own : (x : ℕ) → x ∈ take 2 (moved_clause k j) → Left p q rest s.vars w.clause (neg x) → Witness s.vars (moved_clause k j) (level_lit s.vars x)
      own x i d =
          split (two_cases i)
          (λ z. witness_in (perm_in (new_permuted k j hj)) (first_covered x z d.0))
          (λ z. absurd (never (subst (λ y. neg y ∈ s.vars.trail) z (in_take q s.vars.trail d.0))))

  pub unit_covered : Unset s.vars (first_of k)
      → Covered (set s.store.clauses w.clause (looked_clause k)) (first_set k) (Left p q rest (first_set k))
  unit_covered u =
      covered_set (covered_grown grown (λ r l _ d. in_take q s.vars.trail d.0) v.covered) w.clause (looked_clause k) k.inside
      (λ r l n d. others r l n (subst (λ t. l ∈ t) (enqueue_take s.vars (first_of k) w.clause q head_inside) d.0, d.1))
      (λ x i d. own x (two_cases i))
    where
      grown : Grown s.vars (first_set k)
      grown = enqueue_grown assigned (first_of k) w.clause u

      even : level_lit (first_set k) (first_of k) ≡ level_lit (first_set k) (neg p)
      even =
          new_level assigned (first_of k) w.clause ((whole k).range (first_of k) (here refl)) ∙ sym v.top ∙ sym (grown.level p v.walking.on)
          ∙ sym (level_neg (first_set k) p)

      first_witness : (d : ℕ) → level_lit (first_set k) (first_of k) ≤ d → Witness (first_set k) (looked_clause k) d
      first_witness d le = record { literal = first_of k; member = here refl; set = enqueue_new s.vars (first_of k) w.clause; low = le }

      own : (x : ℕ) → (x ≡ first_of k) ⊎ (x ≡ neg p) → Witness (first_set k) (looked_clause k) (level_lit (first_set k) x)
      own x (inl e) = witness_of e (first_witness (level_lit (first_set k) (first_of k)) (omega arith))
      own x (inr e) = witness_of e (first_witness (level_lit (first_set k) (neg p)) (omega (arith, even)))
