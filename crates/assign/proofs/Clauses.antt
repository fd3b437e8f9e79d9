-- The stored clauses may change, as long as the reasons keep their first literal and gain no other.
use Rattle.std.specs.Prelude.{◌≡◌, ◌≢◌, ◌⊎◌, List, [], ◌++◌, reverse, ℕ, ◌<◌, length, get_or, drop, set}
use Rattle.std.proofs.Common.{sym, ◌∙◌, subst, inl, inr, arith, length-append, length-set, get_or-set_same, get_or-set_other}
use Rattle.std.proofs.Math.ListN.{get_or-append}
use Rattle.model.specs.Lit.{no_reason}
use Rattle.model.specs.State.{VarState, reason_lit}
use Rattle.lawbase.specs.Basics.{◌∈◌, Every, same?}
use Rattle.lawbase.specs.WellFormed.{Implies, Ground, fixed, decided, implied, Entry, Assignment}
use Rattle.assign.proofs.Lists.{from_reverse}
use Rattle.assign.proofs.Reading.{entries-map}
use Rattle.assign.specs.Clauses.{Serves}

pub implies_under : (cs cs' : List (List ℕ)) (r p : ℕ) (before : List ℕ) → (r < length cs → Serves cs cs' r) → Implies cs r p before
    → Implies cs' r p before
implies_under cs cs' r p before f i =
    let s = f i.stored in
    record { stored = s.stored; first = s.first ∙ i.first; false_rest = λ q j. i.false_rest q (s.rest q j) }

ground_clauses : (cs cs' : List (List ℕ)) (vs : VarState) (p : ℕ) (before : List ℕ)
    → (reason_lit vs p ≢ no_reason → reason_lit vs p < length cs → Serves cs cs' (reason_lit vs p))
    → Ground cs vs p before → Ground cs' vs p before
ground_clauses cs cs' vs p before f (fixed a b) = fixed a b
ground_clauses cs cs' vs p before f (decided a b c) = decided a b c
ground_clauses cs cs' vs p before f (implied a b) = implied a (implies_under cs cs' (reason_lit vs p) p before (f a) b)

entry-clauses : (n : ℕ) (cs cs' : List (List ℕ)) (vs : VarState) (p : ℕ) (before : List ℕ)
    → (reason_lit vs p ≢ no_reason → reason_lit vs p < length cs → Serves cs cs' (reason_lit vs p))
    → Entry n cs vs p before → Entry n cs' vs p before
entry-clauses n cs cs' vs p before f e =
    record {
      range = e.range;
      fresh = e.fresh;
      valued = e.valued;
      level = e.level;
      above = e.above;
      below = e.below;
      grounds = ground_clauses cs cs' vs p before f e.grounds;
    }

-- other clauses, in which every reason of a literal on the trail serves as it did
pub clauses_changed : {n : ℕ} {cs : List (List ℕ)} {vs : VarState} → Assignment n cs vs → (cs' : List (List ℕ))
    → Every (λ p. reason_lit vs p ≢ no_reason → reason_lit vs p < length cs → Serves cs cs' (reason_lit vs p)) vs.trail → Assignment n cs' vs
clauses_changed {n} {cs} {vs} w cs' f =
    record {
      values = w.values;
      levels = w.levels;
      reasons = w.reasons;
      entries = entries-map n cs cs' vs vs (reverse vs.trail)
          (λ p b i h. entry-clauses n cs cs' vs p b (f p (from_reverse vs.trail i))) w.entries;
      unset = w.unset;
      limits = w.limits;
      sorted = w.sorted;
    }

-- more clauses behind those
pub clauses_more : {n : ℕ} {cs : List (List ℕ)} {vs : VarState} → Assignment n cs vs → (new : List (List ℕ)) → Assignment n (cs ++ new) vs
clauses_more {cs = cs} w new =
    clauses_changed w (cs ++ new)
    (λ p i d h.
    let e = get_or-append cs new [] _ h in
    record { stored = omega (arith, length-append cs new); first = rw e; rest = λ l j. rw e at j })

-- one clause in another order: where it is a reason, its first literal stays, and the others are among those that were there
pub clause-set : {n : ℕ} {cs : List (List ℕ)} {vs : VarState} → Assignment n cs vs → (r : ℕ) (d : List ℕ)
    → ((p : ℕ) → p ∈ vs.trail → reason_lit vs p ≡ r → r ≢ no_reason → r < length cs → get_or d 0 0 ≡ get_or (get_or cs r []) 0 0)
    → ((p : ℕ) → p ∈ vs.trail → reason_lit vs p ≡ r → r ≢ no_reason → r < length cs → Every (λ l. l ∈ drop 1 (get_or cs r [])) (drop 1 d))
    → Assignment n (set cs r d) vs
clause-set {n} {cs} {vs} w r d first rest = clauses_changed w (set cs r d) (λ p i z h. serves p i z h (same? (reason_lit vs p) r))
  where
    put : r < length cs → get_or d 0 0 ≡ get_or (get_or cs r []) 0 0 → Every (λ l. l ∈ drop 1 (get_or cs r [])) (drop 1 d) → Serves cs (set cs r d) r
    put h a b =
        let e = get_or-set_same cs r d [] h in
        record { stored = rw (length-set cs r d) h; first = rw e a; rest = rw e b }

    kept : (k : ℕ) → k < length cs → k ≢ r → Serves cs (set cs r d) k
    kept k h z =
        let e = get_or-set_other cs r k d [] z in
        record { stored = rw (length-set cs r d) h; first = rw e; rest = rw e (λ l j. j) }

    serves : (p : ℕ) → p ∈ vs.trail → reason_lit vs p ≢ no_reason → reason_lit vs p < length cs → (reason_lit vs p ≡ r) ⊎ (reason_lit vs p ≢ r)
        → Serves cs (set cs r d) (reason_lit vs p)
    serves p i z h (inl e) =
        let z' : r ≢ no_reason = λ q. z (e ∙ q) in
        let h' : r < length cs = rw e at h in
        subst (Serves cs (set cs r d)) (sym e) (put h' (first p i e z' h') (rest p i e z' h'))
    serves p i z h (inr y) = kept (reason_lit vs p) h y
