-- The turns of `lit_redundant` are enough: a literal is pushed when its variable is marked, so the stack and the unmarked variables together lose one
-- with each turn.
use Rattle.std.specs.Prelude.{◌≡◌, true}
use Rattle.std.proofs.Math.Path.{refl}
use Rattle.std.proofs.Common.{◌∙◌, arith, length-set}
use Rattle.std.specs.Prelude.{Option, None as none, Some as some}
use mathlib.Core.List.Memᴰ.{head as here}
use mathlib.Core.List.{List, [], ◌∷◌}
use Prim.Native.Nat.{ℕ, suc, zero, ◌+◌, ◌-◌, ◌≤◌, ◌<◌}
use Rattle.std.proofs.Math.ListN.{length}
use Rattle.model.specs.Lit.{var, neg}
use Rattle.model.specs.State.{Store, VarState, reason_rest}
use Rattle.model.specs.Minimise.{is_seen, Tracing, push_reason, lit_redundant}
use Rattle.lawbase.specs.Basics.{◌∈◌, Every, every_one, shrink, var-neg, var_range}
use Rattle.lawbase.specs.WellFormed.{Entries}
use Rattle.learning.proofs.Trail.{in_range}
use Rattle.learning.specs.Marks.{unseen}
use Rattle.learning.proofs.Marks.{unseen-mark, unseen_less}
use Rattle.learning.specs.Trace.{Ok, then, put, Fit, Pushed}
use Rattle.learning.proofs.Trace.{ok_map, push_cases, push_law, fit_reason}
use Rattle.learning.specs.Turns.{left}

ok_both : {A : Type 0} (P Q : A → Type 0) (o : Option A) → Ok P o → Ok Q o → Ok (λ a. P a × Q a) o
ok_both P Q none h k = tt
ok_both P Q (some a) h k = (h, k)

same_then : {A B : Type 0} (o : Option A) (f g : A → Option B) → Ok (λ a. f a ≡ g a) o → then o f ≡ then o g
same_then none f g h = refl
same_then (some a) f g h = h

module _ (n : ℕ) (st : Store) (vs : VarState) (t : List ℕ) (w : Entries n st.clauses vs t) (mask : ℕ) where
  -- pushing moves a variable from one part to the other
  pub push_left : (ls : List ℕ) → Every (λ l. neg l ∈ t) ls → (a : Tracing) → length a.seen ≡ n → Ok (λ b. left b ≡ left a) (push_reason vs mask ls a)
  unfolding push_reason
  push_left [] f a s = refl
  push_left (l ∷ ls) f a s =
      push_cases (Ok (λ b. left b ≡ left a)) vs mask l ls a
      (λ h. push_left ls (shrink f) a s)
      (λ z m c.
      let r : var l < length a.seen = rw (s, ← var-neg l) (var_range (neg l) n (in_range n st.clauses vs t w (neg l) (f l (here refl)))) in
      let e : left (put l a) ≡ left a = omega (arith, unseen-mark a.seen (var l) r m) in
      ok_map (λ b. left b ≡ left (put l a)) (λ b. left b ≡ left a) (push_reason vs mask ls (put l a)) (λ b h. h ∙ e)
      (push_left ls (shrink f) (put l a) (length-set a.seen (var l) 1 ∙ s)))
      tt

  abbrev pub Same : (Tracing → Option (List ℕ)) → (Tracing → Option (List ℕ)) → ℕ → Type 0
  Same f g most = (stack m : List ℕ) → length m ≡ n → Every (Fit vs t) stack → length stack + unseen m < most
      → f (record { stack = stack; seen = m }) ≡ g (record { stack = stack; seen = m })

  turn_same : (f g : Tracing → Option (List ℕ)) (most : ℕ) → Same f g most → (q : ℕ) (stack m : List ℕ) → length m ≡ n → Every (Fit vs t) (q ∷ stack)
      → suc (length stack) + unseen m < suc most
      → then (push_reason vs mask (reason_rest st vs q) (record { stack = stack; seen = m })) f
      ≡ then (push_reason vs mask (reason_rest st vs q) (record { stack = stack; seen = m })) g
  turn_same f g most rec q stack m s a h =
      let now : Tracing = record { stack = stack; seen = m } in
      let rs = reason_rest st vs q in
      let i = fit_reason n st vs t w q (a q (here refl)) in
      same_then (push_reason vs mask rs now) f g
      (ok_map (λ b. Pushed n vs t rs now b × (left b ≡ left now)) (λ b. f b ≡ g b) (push_reason vs mask rs now)
      (λ b p. rec b.stack b.seen (p.0.sized s) (p.0.fit (shrink a)) (omega (arith, p.1)))
      (ok_both (Pushed n vs t rs now) (λ b. left b ≡ left now) (push_reason vs mask rs now) (push_law n st vs t w mask rs i now s) (push_left rs i now s)))

  pub turns_same : (i j most : ℕ) → most ≤ i → most ≤ j → Same (lit_redundant st vs mask i) (lit_redundant st vs mask j) most
  unfolding lit_redundant
  turns_same zero j most hi hj stack m s a h = absurd (omega arith)
  turns_same (suc i) zero most hi hj stack m s a h = absurd (omega arith)
  turns_same (suc i) (suc j) most hi hj [] m s a h = refl
  turns_same (suc i) (suc j) most hi hj (q ∷ stack) m s a h =
      turn_same (lit_redundant st vs mask i) (lit_redundant st vs mask j) (most - 1)
      (turns_same i j (most - 1) (omega arith) (omega arith)) q stack m s a (omega arith)

  -- the turns that `drop_redundant` gives to a literal of the clause: any more would give the same
  pub turns_enough : (q : ℕ) (m : List ℕ) → length m ≡ n → Fit vs t q → is_seen m q ≡ true → (turns : ℕ) → length m < turns
      → lit_redundant st vs mask (suc (length m)) (record { stack = q ∷ []; seen = m })
      ≡ lit_redundant st vs mask turns (record { stack = q ∷ []; seen = m })
  turns_enough q m s f e turns h =
      turns_same (suc (length m)) turns (suc (length m)) (omega arith) h (q ∷ []) m s (every_one (Fit vs t) f) (omega (arith, unseen_less m (var q) e))
