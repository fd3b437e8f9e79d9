-- What a trace finds and what can be traced are the same, where the mask lets pass what can be traced.
use Rattle.std.specs.Prelude.{◌≡◌, ◌≢◌, ◌⊎◌, true, false, eqb, length}
use Rattle.std.proofs.Math.Path.{refl}
use Rattle.std.proofs.Common.{ap, sym, ◌∙◌, subst, inl, inr, arith}
use Rattle.std.proofs.Math.Bool.{true≢false}
use Rattle.std.specs.Prelude.{Option, Some as some}
use mathlib.Core.List.Memᴰ.{head as here}
use mathlib.Core.List.Memᴰ.{not-nil}
use mathlib.Core.List.Memᴰ.{tail as there}
use mathlib.Core.List.{List, [], ◌∷◌}
use Prim.Native.Nat.{ℕ, suc, zero, ◌+◌, ◌<◌}
use borrow.Author.Tests.{eq-eqb, ne_eqb}
use Rattle.model.specs.Lit.{var, neg, no_reason}
use Rattle.model.specs.State.{Store, VarState, level_lit, reason_lit, reason_rest}
use Rattle.model.specs.Minimise.{is_seen, Tracing, push_reason, lit_redundant}
use Rattle.lawbase.specs.Basics.{◌∈◌, Every, every_cons, every_one, shrink, split, same?, on?, less?, neg-neg, var-neg}
use Rattle.lawbase.specs.WellFormed.{Entry, Entries}
use Rattle.learning.proofs.Trail.{caused}
use Rattle.learning.specs.Marks.{unseen}
use Rattle.learning.proofs.Marks.{mark_keep, unseen_less}
use Rattle.learning.specs.Trace.{Ok, put, then, Fit, Done, Pushed}
use Rattle.learning.proofs.Trace.{push_law, fit_reason, Good}
use Rattle.learning.specs.Turns.{left}
use Rattle.learning.proofs.Turns.{push_left}
use Rattle.mask.specs.Traceable.{Traced, at_zero, at_end, through, Other, Traceable}
use Rattle.mask.proofs.Bits.{passes}
use Rattle.mask.specs.Back.{Rests}

-- ---- the branches of `push_reason` that go on, and which is taken

module _ (vs : VarState) (mask l : ℕ) (ls : List ℕ) (t : Tracing) where
  -- l is passed over
  abbrev Over : Type 0
  Over = (level_lit vs l ≡ 0) ⊎ (is_seen t.seen l ≡ true)

  -- l ends the trace: a decision, or not on a level of the mask
  abbrev Stop : Type 0
  Stop = (reason_lit vs l ≡ no_reason) ⊎ (passes vs mask l ≡ false)

  push_over : Over → push_reason vs mask (l ∷ ls) t ≡ push_reason vs mask ls t
  unfolding push_reason
  push_over (inl e) = rw (eq-eqb (level_lit vs l) 0 e, push_reason)
  push_over (inr m) = split (on? (eqb (level_lit vs l) 0)) (λ e. rw (e, push_reason)) (λ e. rw (e, m, push_reason))

  push_put : 0 < level_lit vs l → is_seen t.seen l ≡ false → reason_lit vs l ≢ no_reason → passes vs mask l ≡ true
      → push_reason vs mask (l ∷ ls) t ≡ push_reason vs mask ls (put l t)
  unfolding push_reason
  push_put z m c o = rw (ne_eqb (level_lit vs l) 0 (omega arith), m, ne_eqb (reason_lit vs l) no_reason c, o, push_reason)

  push_which : {C : Type 0} → (Over → C)
      → (0 < level_lit vs l → is_seen t.seen l ≡ false → reason_lit vs l ≢ no_reason → passes vs mask l ≡ true → C)
      → (0 < level_lit vs l → is_seen t.seen l ≡ false → Stop → C) → C
  push_which f g h = split (less? 0 (level_lit vs l))
      (λ z. split (on? (is_seen t.seen l))
      (λ m. f (inr m))
      (λ m. split (same? (reason_lit vs l) no_reason)
      (λ c. h z m (inl c))
      (λ c. split (on? (passes vs mask l)) (λ o. g z m c o) (λ o. h z m (inr o)))))
      (λ z. f (inl (omega arith)))

-- ---- literals that can be traced

pub traced_more : {st : Store} {vs : VarState} {E F : ℕ → Type 0} → ((q : ℕ) → E q → F q) → {q : ℕ} → Traced st vs E q → Traced st vs F q
traced_more f (at_zero e) = at_zero e
traced_more f {q} (at_end b) = at_end (f q b)
traced_more f (through c g) = through c (λ r i. traced_more f (g r i))

pub traceable_rests : {st : Store} {vs : VarState} {clause : List ℕ} {q : ℕ} → 0 < level_lit vs q → Traceable st vs clause q → Rests st vs clause q
traceable_rests z (at_zero e) = absurd (omega arith)
traceable_rests z (at_end b) = absurd (b.1 refl)
traceable_rests z (through c f) = record { caused = c; traced = λ r i. traced_more (λ x b. b.0) (f r i) }

-- so has a literal that is no literal of the clause
traced_rests : {st : Store} {vs : VarState} {clause : List ℕ} {q : ℕ} → 0 < level_lit vs q → (q ∈ clause → ⊥) → Traced st vs (λ r. r ∈ clause) q
    → Rests st vs clause q
traced_rests z b (at_zero e) = absurd (omega arith)
traced_rests z b (at_end i) = absurd (b i)
traced_rests z b (through c f) = record { caused = c; traced = f }

-- t is the trail, newest first
module _ (n : ℕ) (st : Store) (vs : VarState) (t : List ℕ) (w : Entries n st.clauses vs t) (clause : List ℕ) where
  -- ---- what a trace finds can be traced

  -- of a part u of the trail without q: each marked literal is traced to other literals of the clause than q
  marked-traced : (m : List ℕ) → Good n st vs t w clause [] m → (q : ℕ) (u : List ℕ) → Entries n st.clauses vs u → Every (λ p. p ∈ t) u
      → Every (λ p. neg p ≢ q) u → (p : ℕ) → p ∈ u → is_seen m p ≡ true → Traced st vs (Other clause q) (neg p)
  marked-traced m g q [] e on ne p i s = absurd (not-nil i)
  marked-traced m g q (x ∷ u) e on ne p (there i) s = marked-traced m g q u e.1 (shrink on) (shrink ne) p i s
  marked-traced m g q (x ∷ u) e on ne p (here a) s = rw a
      (split (g x (on x (here refl)) (rw a at s))
      (λ b. at_end (b, ne x (here refl)))
      (λ o. split o (λ z. absurd (not-nil z)) (λ d. through (rw var-neg d.caused)
      (λ r j.
      let k : r ∈ reason_rest st vs x = rw var-neg at j in
      split (less? 0 (level_lit vs r))
      (λ z. rw neg-neg at (marked-traced m g q u e.1 (shrink on) (shrink ne) (neg r)
      ((caused e.0.grounds d.caused).false_rest r k) (rw var-neg (d.covered r k z))))
      (λ z. at_zero (omega arith))))))

  -- where a false literal stands on the trail, and what was set before it
  pub record Stands (q : ℕ) : Type 0 where
    pub older : List ℕ
    pub entries : Entries n st.clauses vs older
    pub entry : Entry n st.clauses vs (neg q) older
    pub on : Every (λ p. p ∈ t) older

  stands_in : (q : ℕ) (u : List ℕ) → Entries n st.clauses vs u → Every (λ p. p ∈ t) u → neg q ∈ u → Stands q
  stands_in q [] e on i = absurd (not-nil i)
  stands_in q (x ∷ u) e on (there i) = stands_in q u e.1 (shrink on) i
  stands_in q (x ∷ u) e on (here a) =
      record { older = u; entries = e.1; entry = subst (λ (y : ℕ). Entry n st.clauses vs y u) (sym a) e.0; on = shrink on }

  pub stands : (q : ℕ) → neg q ∈ t → Stands q
  stands q i = stands_in q t w (λ p j. j) i

  pub done_traceable : (m : List ℕ) → Good n st vs t w clause [] m → (q : ℕ) → neg q ∈ t → Done st vs m q → Traceable st vs clause q
  done_traceable m g q i d =
      let s = stands q i in
      let c : reason_lit vs (neg q) ≢ no_reason = rw var-neg d.caused in
      through d.caused
      (λ r j.
      let k : r ∈ reason_rest st vs (neg q) = rw var-neg j in
      split (less? 0 (level_lit vs r))
      (λ z. rw neg-neg at (marked-traced m g q s.older s.entries s.on
      (λ p h e. s.entry.fresh p h (sym (var-neg p) ∙ ap var e ∙ sym (var-neg q)))
      (neg r) ((caused s.entry.grounds c).false_rest r k) (rw var-neg (d.covered r j z))))
      (λ z. at_zero (omega arith)))

  -- ---- what can be traced is found

  -- the mask lets pass what is traced to the clause
  abbrev pub Lets : ℕ → Type 0
  Lets mask = (q : ℕ) → neg q ∈ t → 0 < level_lit vs q → Traced st vs (λ r. r ∈ clause) q → passes vs mask q ≡ true

  module _ (mask : ℕ) (lets : Lets mask) where
    -- every literal of the clause is marked
    abbrev pub Marked : List ℕ → Type 0
    Marked m = Every (λ b. is_seen m b ≡ true) clause

    pushes : (ls : List ℕ) → Every (λ l. neg l ∈ t) ls → Every (Traced st vs (λ r. r ∈ clause)) ls → (a : Tracing) → Marked a.seen
        → Every (Rests st vs clause) a.stack
        → (b : Tracing) × (push_reason vs mask ls a ≡ some b) × Every (Rests st vs clause) b.stack
    unfolding push_reason
    pushes [] f r a m k = (a, refl, k)
    pushes (l ∷ ls) f r a m k = push_which vs mask l ls a
        (λ h.
        let x = pushes ls (shrink f) (shrink r) a m k in
        (x.0, push_over vs mask l ls a h ∙ x.1, x.2))
        (λ z u c o.
        let y = traced_rests z (λ i. true≢false (sym (m l i) ∙ u)) (r l (here refl)) in
        let x = pushes ls (shrink f) (shrink r) (put l a) (λ b i. mark_keep a.seen (var l) (var b) (m b i)) (every_cons (Rests st vs clause) y k) in
        (x.0, push_put vs mask l ls a z u c o ∙ x.1, x.2))
        (λ z u h. absurd (split h
        (λ c. (traced_rests z (λ i. true≢false (sym (m l i) ∙ u)) (r l (here refl))).caused c)
        (λ o. true≢false (sym (lets l (f l (here refl)) z (r l (here refl))) ∙ o))))

    -- a trace comes to its end
    abbrev pub Ends : Option (List ℕ) → Type 0
    Ends o = (k : List ℕ) × (o ≡ some k)

    then_ends : {A : Type 0} (o : Option A) (f : A → Option (List ℕ)) {a : A} → o ≡ some a → Ends (f a) → Ends (then o f)
    then_ends o f e h = rw e h

    ok_some : {A : Type 0} (P : A → Type 0) (o : Option A) (a : A) → o ≡ some a → Ok P o → P a
    ok_some P o a e h = subst (Ok P) e h

    traces : (turns : ℕ) (stack m : List ℕ) → length m ≡ n → Every (Fit vs t) stack → Every (Rests st vs clause) stack → Marked m
        → length stack + unseen m < turns
        → Ends (lit_redundant st vs mask turns (record { stack = stack; seen = m }))
    unfolding lit_redundant
    traces zero stack m s f r b h = absurd (omega arith)
    traces (suc turns) [] m s f r b h = (m, refl)
    traces (suc turns) (q ∷ stack) m s f r b h =
        let now : Tracing = record { stack = stack; seen = m } in
        let rs = reason_rest st vs q in
        let i = fit_reason n st vs t w q (f q (here refl)) in
        let x = pushes rs i (r q (here refl)).traced now b (shrink r) in
        let p = ok_some (Pushed n vs t rs now) (push_reason vs mask rs now) x.0 x.1 (push_law n st vs t w mask rs i now s) in
        let l = ok_some (λ y. left y ≡ left now) (push_reason vs mask rs now) x.0 x.1 (push_left n st vs t w mask rs i now s) in
        then_ends (push_reason vs mask rs now) (lit_redundant st vs mask turns) x.1
        (traces turns x.0.stack x.0.seen (p.sized s) (p.fit (shrink f)) x.2 (λ c j. p.grows (var c) (b c j)) (omega (arith, l)))

    pub redundant : (q : ℕ) (m : List ℕ) → length m ≡ n → Fit vs t q → Marked m → q ∈ clause → Traceable st vs clause q
        → Ends (lit_redundant st vs mask (suc (length m)) (record { stack = q ∷ []; seen = m }))
    redundant q m s f b i h =
        traces (suc (length m)) (q ∷ []) m s (every_one (Fit vs t) f) (every_one (Rests st vs clause) (traceable_rests f.above h)) b
        (omega (arith, unseen_less m (var q) (b q i)))
