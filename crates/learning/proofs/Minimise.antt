-- Rule 4: `minimize_conflict` drops literals that follow from the others, and keeps the order of the rest.
use Rattle.std.specs.Prelude.{◌≡◌, refl, ◌≢◌, ◌⊎◌, Bool, ℕ, suc, ◌≤◌, ◌<◌, length}
use Rattle.std.proofs.Math.Path.{sym}
use Rattle.std.proofs.Common.{◌∙◌, inl, inr, arith, eq-eqb, ne_eqb}
use Rattle.std.specs.Prelude.{Option, None as none, Some as some}
use mathlib.Core.List.Memᴰ.{head as here}
use mathlib.Core.List.Memᴰ.{not-nil}
use mathlib.Core.List.Memᴰ.{tail as there}
use mathlib.Core.List.{List, [], ◌∷◌, ◌++◌, reverse, append_assoc, append-nil}
use Rattle.model.specs.Lit.{var, neg, no_reason}
use Rattle.model.specs.State.{Store, VarState, level_lit, reason_lit}
use Rattle.model.specs.Minimise.{lit_redundant, drop_redundant, minimize_conflict, abstract_levels}
use Rattle.lawbase.specs.Basics.{◌∈◌, Every, every_nil, every_cons, shrink, split, same?, neg-neg, var-neg}
use Rattle.lawbase.specs.WellFormed.{Distinct, Entries}
use Rattle.learning.proofs.Trail.{once, in_reverse, from_reverse}
use Rattle.learning.specs.FirstUip.{Knows, Refutes}
use Rattle.learning.specs.Trace.{Done, Grows}
use Rattle.learning.proofs.Trace.{Good, Found, found, done_neg, done_grow}
use Rattle.learning.proofs.Cut.{cut}
use Rattle.learning.specs.Minimise.{Sub, end, keep, skip, Minimisable}

pub sub_all : (L : List ℕ) → Sub L L
sub_all [] = end
sub_all (q ∷ L) = keep (sub_all L)

pub sub_in : {K L : List ℕ} → Sub K L → Every (λ q. q ∈ L) K
sub_in end q i = i
sub_in (keep s) q (here e) = here e
sub_in (keep s) q (there i) = there (sub_in s q i)
sub_in (skip s) q i = there (sub_in s q i)

pub sub_length : {K L : List ℕ} → Sub K L → length K ≤ length L
sub_length end = omega arith
sub_length (keep s) = omega (arith, sub_length s)
sub_length (skip s) = omega (arith, sub_length s)

pub sub_distinct : {K L : List ℕ} → Sub K L → Distinct L → Distinct K
sub_distinct end d = d
sub_distinct (keep s) d = (λ m i. d.0 m (sub_in s m i), sub_distinct s d.1)
sub_distinct (skip s) d = sub_distinct s d.1

-- ---- the branches, once

pub drop_cases : (P : List ℕ → Type 0) (st : Store) (vs : VarState) (mask : ℕ) (kept : List ℕ) (l : ℕ) (ls m : List ℕ)
    → P (drop_redundant st vs mask (kept ++ (l ∷ [])) ls m)
    → ((k : List ℕ) → reason_lit vs l ≢ no_reason → lit_redundant st vs mask (suc (length m)) (record { stack = l ∷ []; seen = m }) ≡ some k
    → P (drop_redundant st vs mask kept ls k))
    → P (drop_redundant st vs mask kept (l ∷ ls) m)
unfolding drop_redundant
drop_cases P st vs mask kept l ls m f g = split (same? (reason_lit vs l) no_reason)
    (λ e. rw (eq-eqb (reason_lit vs l) no_reason e, drop_redundant) f)
    (λ ne. rw (ne_eqb (reason_lit vs l) no_reason ne, drop_redundant)
    (go ne (lit_redundant st vs mask (suc (length m)) (record { stack = l ∷ []; seen = m })) refl))
  where
    go : reason_lit vs l ≢ no_reason → (o : Option (List ℕ)) → lit_redundant st vs mask (suc (length m)) (record { stack = l ∷ []; seen = m }) ≡ o
        → P (elim o [ none ↦ drop_redundant st vs mask (kept ++ (l ∷ [])) ls m | some k ↦ drop_redundant st vs mask kept ls k ])
    go ne none e = f
    go ne (some k) e = g k ne e

-- ---- what is left

module _ (n : ℕ) (st : Store) (vs : VarState) (t : List ℕ) (w : Entries n st.clauses vs t) (base : List ℕ) where
  -- K is left of ls: each literal is kept, or the literals of its reason are marked in the end
  pub record Min (m ls K : List ℕ) : Type 0 where
    pub last : List ℕ
    pub good : Good n st vs t w base [] last
    pub grows : Grows m last
    pub each : Every (λ q. (q ∈ K) ⊎ Done st vs last q) ls

  min_keep : (m : List ℕ) (q : ℕ) (ls K : List ℕ) → Min m ls K → Min m (q ∷ ls) (q ∷ K)
  min_keep m q ls K r =
      record {
        last = r.last;
        good = r.good;
        grows = r.grows;
        each = every_cons (λ x. (x ∈ (q ∷ K)) ⊎ Done st vs r.last x) (inl (here refl)) (λ x i. split (r.each x i) (λ j. inl (there j)) inr);
      }

  min-drop : (m k : List ℕ) (q : ℕ) (ls K : List ℕ) → Found n st vs t w base m q k → Min k ls K → Min m (q ∷ ls) K
  min-drop m k q ls K f r =
      record {
        last = r.last;
        good = r.good;
        grows = λ v h. r.grows v (f.grows v h);
        each = every_cons (λ x. (x ∈ K) ⊎ Done st vs r.last x) (inr (done_grow st vs k r.last q r.grows f.done)) r.each;
      }

  record Dropped (m kept ls R : List ℕ) : Type 0 where
    left : List ℕ
    is : R ≡ kept ++ left
    sub : Sub left ls
    min : Min m ls left

  dropped_keep : (m kept : List ℕ) (q : ℕ) (ls R : List ℕ) → Dropped m (kept ++ (q ∷ [])) ls R → Dropped m kept (q ∷ ls) R
  dropped_keep m kept q ls R d =
      record { left = q ∷ d.left; is = d.is ∙ append_assoc kept (q ∷ []) d.left; sub = keep d.sub; min = min_keep m q ls d.left d.min }

  dropped_drop : (m k kept : List ℕ) (q : ℕ) (ls R : List ℕ) → Found n st vs t w base m q k → Dropped k kept ls R → Dropped m kept (q ∷ ls) R
  dropped_drop m k kept q ls R f d = record { left = d.left; is = d.is; sub = skip d.sub; min = min-drop m k q ls d.left f d.min }

  drop_law : (mask : ℕ) (ls : List ℕ) → Every (λ q. (neg q ∈ t) × (0 < level_lit vs q)) ls → (m : List ℕ) → length m ≡ n → Good n st vs t w base [] m
      → (kept : List ℕ)
      → Dropped m kept ls (drop_redundant st vs mask kept ls m)
  unfolding drop_redundant
  drop_law mask [] a m s g kept =
      record {
        left = [];
        is = sym (append-nil kept);
        sub = end;
        min = record { last = m; good = g; grows = λ v h. h; each = every_nil (λ q. (q ∈ []) ⊎ Done st vs m q) };
      }
  drop_law mask (l ∷ ls) a m s g kept =
      drop_cases (Dropped m kept (l ∷ ls)) st vs mask kept l ls m
      (dropped_keep m kept l ls (drop_redundant st vs mask (kept ++ (l ∷ [])) ls m) (drop_law mask ls (shrink a) m s g (kept ++ (l ∷ []))))
      (λ k c e.
      let i = a l (here refl) in
      let f = found n st vs t w base mask (suc (length m)) l m k s (record { falsified = i.0; above = i.1; caused = c }) g e in
      dropped_drop m k kept l ls (drop_redundant st vs mask kept ls k) f (drop_law mask ls (shrink a) k f.sized f.good kept))

-- ---- the law

module _ (n : ℕ) (st : Store) (vs : VarState) (ls seen : List ℕ) (h : Minimisable n st vs ls seen) where
  abbrev pub t : List ℕ
  t = reverse vs.trail

  pub start_good : Good n st vs t h.assignment.entries ls [] seen
  start_good p i m = inl (go (h.marks.only (var p) m))
    where
      go : (q : ℕ) × (q ∈ ls) × (var q ≡ var p) → neg p ∈ ls
      go x =
          let e : p ≡ neg x.0 = once n st.clauses vs t h.assignment.entries p (neg x.0) i
          (in_reverse vs.trail (h.falsified x.0 x.1))
          (sym x.2 ∙ sym (var-neg x.0)) in
          rw (e, neg-neg) x.1

  dropped : (mask : ℕ) → Dropped n st vs t h.assignment.entries ls seen [] ls (drop_redundant st vs mask [] ls seen)
  dropped mask =
      drop_law n st vs t h.assignment.entries ls mask ls (λ q i. (in_reverse vs.trail (h.falsified q i), h.above q i)) seen
      h.marks.sized start_good []

  -- what S falsifies of the literals kept, it falsifies of all
  pub min_sound : (S : ℕ → Bool) → Knows S st vs → (K : List ℕ) → Min n st vs t h.assignment.entries ls seen ls K → Refutes S K → Refutes S ls
  min_sound S k K r f q i =
      cut S n st vs k r.last t (λ p j. from_reverse vs.trail j) h.assignment.entries
      (λ p j m. split (r.good p j m)
      (λ o. split (r.each (neg p) o)
      (λ x. inl (rw neg-neg at (f (neg p) x)))
      (λ d. inr (done_neg st vs r.last (neg p) p (var-neg p) d)))
      (λ o. split o (λ x. absurd (not-nil x)) inr))
      (neg q) (in_reverse vs.trail (h.falsified q i)) (rw var-neg (r.grows (var q) (h.marks.all q i)))

  pub minimize_sub : (mode : ℕ) → Sub (minimize_conflict mode st vs ls seen) ls
  unfolding minimize_conflict
  minimize_sub mode = split (same? mode 2)
      (λ e.
      let d = dropped (abstract_levels vs 0 ls) in
      rw (eq-eqb mode 2 e, minimize_conflict, d.is) d.sub)
      (λ ne. rw (ne_eqb mode 2 ne, minimize_conflict) (sub_all ls))

  pub minimize_sound : (S : ℕ → Bool) → Knows S st vs → (mode : ℕ) → Refutes S (minimize_conflict mode st vs ls seen) → Refutes S ls
  unfolding minimize_conflict
  minimize_sound S k mode f = split (same? mode 2)
      (λ e.
      let d = dropped (abstract_levels vs 0 ls) in
      min_sound S k d.left d.min (rw (eq-eqb mode 2 e, minimize_conflict, d.is) at f))
      (λ ne. rw (ne_eqb mode 2 ne, minimize_conflict) at f)

-- modes 0 and 1 keep all
pub minimize_keeps : (mode : ℕ) → mode ≢ 2 → (st : Store) (vs : VarState) (ls seen : List ℕ) → minimize_conflict mode st vs ls seen ≡ ls
unfolding minimize_conflict
minimize_keeps mode ne st vs ls seen = rw (ne_eqb mode 2 ne, minimize_conflict)
