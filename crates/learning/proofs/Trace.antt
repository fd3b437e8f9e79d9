-- `lit_redundant`: what is traced back.
use Rattle.std.specs.Prelude.{◌≡◌, refl, ◌≢◌, ◌⊎◌, Bool, true, false, not, ◌&&◌, eqb, length, set}
use Rattle.std.proofs.Common.{ap, sym, ◌∙◌, inr, arith, length-set, eq-eqb, ne_eqb}
use Rattle.std.proofs.Math.Logic.{inl}
use Rattle.std.specs.Prelude.{Option, None as none, Some as some}
use mathlib.Core.List.Memᴰ.{head as here}
use mathlib.Core.List.Memᴰ.{not-nil}
use mathlib.Core.List.Memᴰ.{tail as there}
use mathlib.Core.List.{List, [], ◌∷◌}
use Prim.Native.Nat.{ℕ, suc, zero, ◌<◌}
use Rattle.std.specs.Int.Bits.{bit_and}
use Rattle.std.proofs.lemmas.Bool.{eqb-false}
use Rattle.model.specs.Lit.{var, neg, no_reason, abstract_level}
use Rattle.model.specs.State.{Store, VarState, level_lit, reason_lit, reason_rest}
use Rattle.model.specs.Minimise.{is_seen, Tracing, push_reason, lit_redundant}
use Rattle.lawbase.specs.Basics.{◌∈◌, Every, every_nil, every_cons, every_one, shrink, split, in_tail, same?, on?, less?, neg-neg, var-neg, var_range}
use Rattle.lawbase.specs.WellFormed.{Entries}
use Rattle.learning.proofs.Trail.{once, in_range, caused}
use Rattle.learning.proofs.Marks.{mark_same, mark_keep, mark_other}
use Rattle.learning.specs.Trace.{Ok, then, put, Grows, Done, Fit, Pushed}

pub ok_map : {A : Type 0} (P Q : A → Type 0) (o : Option A) → ((a : A) → P a → Q a) → Ok P o → Ok Q o
ok_map P Q none f h = tt
ok_map P Q (some a) f h = f a h

pub ok_then : {A B : Type 0} (P : A → Type 0) (Q : B → Type 0) (o : Option A) (f : A → Option B) → Ok P o → ((a : A) → P a → Ok Q (f a)) → Ok Q (then o f)
ok_then P Q none f h k = tt
ok_then P Q (some a) f h k = k a h

-- ---- the branches, once

and_left : (a b : Bool) → a && b ≡ true → a ≡ true
and_left true b h = refl
and_left false b h = h

not_is : (a : Bool) → not a ≡ true → a ≡ false
not_is true h = sym h
not_is false h = refl

pub push_cases : (P : Option Tracing → Type 0) (vs : VarState) (mask l : ℕ) (ls : List ℕ) (t : Tracing)
    → ((0 < level_lit vs l → is_seen t.seen l ≡ true) → P (push_reason vs mask ls t))
    → (0 < level_lit vs l → is_seen t.seen l ≡ false → reason_lit vs l ≢ no_reason → P (push_reason vs mask ls (put l t)))
    → P none
    → P (push_reason vs mask (l ∷ ls) t)
unfolding push_reason
push_cases P vs mask l ls t f g h = split (less? 0 (level_lit vs l))
    (λ z.
    let ne = ne_eqb (level_lit vs l) 0 (omega arith) in
    split (on? (is_seen t.seen l))
    (λ m. rw (ne, m, push_reason) (f (λ _. m)))
    (λ m. split (on? test)
    (λ o. rw (ne, m, o, push_reason) (g z m (eqb-false (reason_lit vs l) no_reason (not_is (eqb (reason_lit vs l) no_reason) (and_left _ _ o)))))
    (λ o. rw (ne, m, o, push_reason) h)))
    (λ z.
    let e : level_lit vs l ≡ 0 = omega arith in
    rw (eq-eqb (level_lit vs l) 0 e, push_reason) (f (λ y. absurd (omega arith))))
  where
    test : Bool
    test = not (eqb (reason_lit vs l) no_reason) && not (eqb (bit_and (abstract_level (level_lit vs l)) mask) 0)

-- ---- what is traced

pub done_grow : (st : Store) (vs : VarState) (m k : List ℕ) (q : ℕ) → Grows m k → Done st vs m q → Done st vs k q
done_grow st vs m k q g d = record { above = d.above; caused = d.caused; covered = λ l i z. g (var l) (d.covered l i z) }

-- a literal and its negation have one reason
pub done_neg : (st : Store) (vs : VarState) (m : List ℕ) (p q : ℕ) → var p ≡ var q → Done st vs m p → Done st vs m q
done_neg st vs m p q e d =
    record { above = rw (← e) d.above; caused = rw (← e) d.caused; covered = rw (← e) d.covered }

module _ (n : ℕ) (st : Store) (vs : VarState) (t : List ℕ) (w : Entries n st.clauses vs t) where
  var_in : (q : ℕ) → neg q ∈ t → var q < n
  var_in q i = rw var-neg at (var_range (neg q) n (in_range n st.clauses vs t w (neg q) i))

  pushed_put : (l : ℕ) (a : Tracing) → length a.seen ≡ n → Fit vs t l → Pushed n vs t (l ∷ []) a (put l a)
  pushed_put l a s f =
      let h : var l < length a.seen = rw s (var_in l f.falsified) in
      record {
        sized = λ e. simp length-set e;
        grows = λ v m. mark_keep a.seen (var l) v m;
        covers = every_one (λ x. 0 < level_lit vs x → is_seen (set a.seen (var l) 1) x ≡ true) (λ _. mark_same a.seen (var l) h);
        deeper = λ q j. there j;
        new = λ p j m. split (same? (var p) (var l))
            (λ e. inr (here (rw (once n st.clauses vs t w p (neg l) j f.falsified (e ∙ sym (var-neg l))) (neg-neg l))))
            (λ ne. inl (rw (mark_other a.seen (var l) 1 (var p) ne) at m));
        fit = λ g. every_cons (Fit vs t) f g;
      }

  pushed_same : (l : ℕ) (a : Tracing) → (0 < level_lit vs l → is_seen a.seen l ≡ true) → Pushed n vs t (l ∷ []) a a
  pushed_same l a h =
      record {
        sized = λ e. e;
        grows = λ v m. m;
        covers = every_one (λ x. 0 < level_lit vs x → is_seen a.seen x ≡ true) h;
        deeper = λ q i. i;
        new = λ p i m. inl m;
        fit = λ f. f;
      }

  pushed_trans : (l : ℕ) (ls : List ℕ) (a b c : Tracing) → Pushed n vs t (l ∷ []) a b → Pushed n vs t ls b c → Pushed n vs t (l ∷ ls) a c
  pushed_trans l ls a b c f g =
      record {
        sized = λ e. g.sized (f.sized e);
        grows = λ v m. g.grows v (f.grows v m);
        covers = every_cons (λ x. 0 < level_lit vs x → is_seen c.seen x ≡ true) (λ z. g.grows (var l) (f.covers l (here refl) z)) g.covers;
        deeper = λ q i. g.deeper q (f.deeper q i);
        new = λ p i m. split (g.new p i m) (λ k. split (f.new p i k) inl (λ s. inr (g.deeper (neg p) s))) inr;
        fit = λ h. g.fit (f.fit h);
      }

  pub push_law : (mask : ℕ) (ls : List ℕ) → Every (λ l. neg l ∈ t) ls → (a : Tracing) → length a.seen ≡ n
      → Ok (Pushed n vs t ls a) (push_reason vs mask ls a)
  unfolding push_reason
  push_law mask [] f a s =
      record {
        sized = λ e. e;
        grows = λ v m. m;
        covers = every_nil (λ x. 0 < level_lit vs x → is_seen a.seen x ≡ true);
        deeper = λ q i. i;
        new = λ p i m. inl m;
        fit = λ f. f;
      }
  push_law mask (l ∷ ls) f a s =
      push_cases (Ok (Pushed n vs t (l ∷ ls) a)) vs mask l ls a
      (λ h. ok_map (Pushed n vs t ls a) (Pushed n vs t (l ∷ ls) a) (push_reason vs mask ls a)
      (λ b. pushed_trans l ls a a b (pushed_same l a h)) (push_law mask ls (shrink f) a s))
      (λ z m c.
      let p = pushed_put l a s (record { falsified = f l (here refl); above = z; caused = c }) in
      ok_map (Pushed n vs t ls (put l a)) (Pushed n vs t (l ∷ ls) a) (push_reason vs mask ls (put l a))
      (λ b. pushed_trans l ls a (put l a) b p) (push_law mask ls (shrink f) (put l a) (p.sized s)))
      tt

  -- a reason reads what was set before
  reason_in : (u : List ℕ) → Entries n st.clauses vs u → (x : ℕ) → x ∈ u → reason_lit vs x ≢ no_reason → Every (λ r. neg r ∈ u) (reason_rest st vs x)
  reason_in [] e x i c = absurd (not-nil i)
  reason_in (y ∷ u) e x (there i) c = λ r j. there (reason_in u e.1 x i c r j)
  reason_in (y ∷ u) e x (here a) c = rw a (λ r j. there ((caused e.0.grounds (rw a at c)).false_rest r j))

  pub fit_reason : (q : ℕ) → Fit vs t q → Every (λ r. neg r ∈ t) (reason_rest st vs q)
  fit_reason q f = rw var-neg at (reason_in t w (neg q) f.falsified (rw var-neg f.caused))

  reason_stored : (u : List ℕ) → Entries n st.clauses vs u → (x : ℕ) → x ∈ u → reason_lit vs x ≢ no_reason → reason_lit vs x < length st.clauses
  reason_stored [] e x i c = absurd (not-nil i)
  reason_stored (y ∷ u) e x (there i) c = reason_stored u e.1 x i c
  reason_stored (y ∷ u) e x (here a) c = rw a (caused e.0.grounds (rw a at c)).stored

  pub fit_stored : (q : ℕ) → Fit vs t q → reason_lit vs q < length st.clauses
  fit_stored q f = rw var-neg at (reason_stored t w (neg q) f.falsified (rw var-neg f.caused))

  -- ---- a trace; `base` is the clause before minimising
  module _ (base : List ℕ) where
    -- each mark is of the clause, or still to be traced, or its reason's literals are marked
    abbrev pub Good : List ℕ → List ℕ → Type 0
    Good stack m = (p : ℕ) → p ∈ t → is_seen m p ≡ true → (neg p ∈ base) ⊎ ((neg p ∈ stack) ⊎ Done st vs m p)

    pub record Found (m : List ℕ) (x : ℕ) (k : List ℕ) : Type 0 where
      pub sized : length k ≡ n
      pub good : Good [] k
      pub done : Done st vs k x
      pub grows : Grows m k

    turn_good : (q : ℕ) (stack m : List ℕ) (b : Tracing) → Fit vs t q → Pushed n vs t (reason_rest st vs q) (record { stack = stack; seen = m }) b
        → Good (q ∷ stack) m → Good b.stack b.seen
    turn_good q stack m b f u g p i h = split (u.new p i h)
        (λ k. split (g p i k) inl (λ o. split o
        (λ j. split (same? (neg p) q)
        (λ e. inr (inr (done_neg st vs b.seen q p (sym (ap var e) ∙ var-neg p) (record { above = f.above; caused = f.caused; covered = u.covers }))))
        (λ e. inr (inl (u.deeper (neg p) (in_tail j e)))))
        (λ d. inr (inr (done_grow st vs m b.seen p u.grows d)))))
        (λ s. inr (inl s))

    abbrev pub Traces : (Tracing → Option (List ℕ)) → Type 0
    Traces f = (stack m : List ℕ) → length m ≡ n → Every (Fit vs t) stack → Good stack m → (x : ℕ) → (x ∈ stack) ⊎ Done st vs m x
        → Ok (Found m x) (f (record { stack = stack; seen = m }))

    turn_law : (mask : ℕ) (f : Tracing → Option (List ℕ)) → Traces f → (q : ℕ) (stack m : List ℕ) → length m ≡ n → Every (Fit vs t) (q ∷ stack)
        → Good (q ∷ stack) m
        → (x : ℕ) → (x ∈ (q ∷ stack)) ⊎ Done st vs m x
        → Ok (Found m x) (then (push_reason vs mask (reason_rest st vs q) (record { stack = stack; seen = m })) f)
    turn_law mask f law q stack m s a g x h =
        let i : Fit vs t q = a q (here refl) in
        let now : Tracing = record { stack = stack; seen = m } in
        ok_then (Pushed n vs t (reason_rest st vs q) now) (Found m x) (push_reason vs mask (reason_rest st vs q) now) f
        (push_law mask (reason_rest st vs q) (fit_reason q i) now s)
        (λ b u. ok_map (Found b.seen x) (Found m x) (f b)
        (λ k r. record { sized = r.sized; good = r.good; done = r.done; grows = λ v j. r.grows v (u.grows v j) })
        (law b.stack b.seen (u.sized s) (u.fit (shrink a)) (turn_good q stack m b i u g) x (split h
        (λ j. split (same? x q)
        (λ e. inr (rw e (record { above = i.above; caused = i.caused; covered = u.covers })))
        (λ ne. inl (u.deeper x (in_tail j ne))))
        (λ d. inr (done_grow st vs m b.seen x u.grows d)))))

    pub lit_law : (mask turns : ℕ) → Traces (lit_redundant st vs mask turns)
    unfolding lit_redundant
    lit_law mask zero stack m s f g x h = tt
    lit_law mask (suc turns) [] m s f g x h =
        record { sized = s; good = g; done = split h (λ i. absurd (not-nil i)) (λ d. d); grows = λ v k. k }
    lit_law mask (suc turns) (q ∷ stack) m s f g x h = turn_law mask (lit_redundant st vs mask turns) (lit_law mask turns) q stack m s f g x h

    pub found : (mask turns q : ℕ) (m k : List ℕ) → length m ≡ n → Fit vs t q → Good [] m
        → lit_redundant st vs mask turns (record { stack = q ∷ []; seen = m }) ≡ some k → Found m q k
    found mask turns q m k s f g e =
        rw e at (lit_law mask turns (q ∷ []) m s (every_one (Fit vs t) f)
        (λ p j h. split (g p j h) inl (λ o. split o (λ z. absurd (not-nil z)) (λ d. inr (inr d)))) q (inl (here refl)))

  -- ---- what every trace keeps

  negs : List ℕ → List ℕ
  negs [] = []
  negs (p ∷ u) = neg p ∷ negs u

  in_negs : (u : List ℕ) (p : ℕ) → p ∈ u → neg p ∈ negs u
  unfolding negs
  in_negs [] p i = absurd (not-nil i)
  in_negs (x ∷ u) p (here e) = here (ap neg e)
  in_negs (x ∷ u) p (there i) = there (in_negs u p i)

  pub trace_keeps : (mask turns q : ℕ) (m k : List ℕ) → length m ≡ n → Fit vs t q
      → lit_redundant st vs mask turns (record { stack = q ∷ []; seen = m }) ≡ some k → (length k ≡ n) × Grows m k
  trace_keeps mask turns q m k s f e =
      let r = found (negs t) mask turns q m k s f (λ p i h. inl (in_negs t p i)) e in
      (r.sized, r.grows)
