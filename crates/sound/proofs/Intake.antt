-- Taking a clause, in document 01's words: what is dropped, what is kept, and when there is no storage.
use Rattle.std.specs.Prelude.{◌≡◌, refl, ◌≢◌, ◌⊎◌, ◌↔◌, Bool, true, false, List, [], ◌∷◌, ℕ, suc, ◌+◌, ◌*◌, ◌%◌, ◌≤◌, ◌<◌, length, get_or, leb}
use Rattle.std.proofs.Common.{ap, sym, ◌∙◌, inl, inr, true≢false, arith, eqb-true, eq-eqb, ne_eqb}
use mathlib.Core.List.Memᴰ.{head as here}
use mathlib.Core.List.Memᴰ.{not-nil}
use mathlib.Core.List.Memᴰ.{tail as there}
use Rattle.std.specs.Prelude.{Option, None as none}
use Rattle.model.specs.Lit.{var, sign, neg, undef_lit, l_true, l_false, l_undef, value_for, value_lit, is_true, is_false}
use Rattle.model.specs.Script.{Config}
use Rattle.model.specs.State.{Store, State}
use Rattle.model.specs.Store.{stored_literals, has_room}
use Rattle.model.specs.Intake.{insert, sort, simplify, Taken, add_clause}
use Rattle.lawbase.specs.Basics.{◌∈◌, Every, split, same?, less?, neg-neg, neg_ne, var-neg, var_range}
use Rattle.lawbase.specs.WellFormed.{Distinct, Stored, WellFormed}
use Rattle.assign.proofs.Lists.{distinct-length}
use Rattle.assign.proofs.Reading.{value_undef, on_is_false, unset_of}
use Rattle.watching.proofs.Store.{room, room_back}
use Rattle.watching.specs.Intake.{Residue, Reduced, void, left, Intaken, closed, dropped_clause, emptied, unit_left, stored_clause, no_storage}
use Rattle.watching.proofs.Intake.{reduced, intaken}
use Rattle.sound.specs.Intake.{Dropped, Full, NoStorage, Kept}

-- ---- the sort

insert-length : (x : ℕ) (ys : List ℕ) → length (insert x ys) ≡ suc (length ys)
unfolding insert
insert-length x [] = refl
insert-length x (y ∷ ys) = go (leb x y) (insert-length x ys)
  where
    go : (b : Bool) → length (insert x ys) ≡ suc (length ys)
        → length {A = ℕ} (elim b [ true ↦ x ∷ y ∷ ys | false ↦ y ∷ insert x ys ]) ≡ suc (suc (length ys))
    go true e = refl
    go false e = ap suc e

-- it loses nothing: repeats go only where the clause is simplified
pub sort-length : (c : List ℕ) → length (sort c) ≡ length c
unfolding sort
sort-length [] = refl
sort-length (x ∷ c) = insert-length x (sort c) ∙ ap suc (sort-length c)

-- ---- values

value_other : (x l : ℕ) → x ≢ l_undef → value_for x l ≡ (x + sign l) % 2
value_other x l n = rw (ne_eqb x l_undef n, value_for)

module _ (values : List ℕ) (l : ℕ) where
  true_not_false : is_true values l ≡ true → is_false values l ≡ true → ⊥
  true_not_false t f = omega (arith, eqb-true (value_lit values l) l_true t, eqb-true (value_lit values l) l_false f)

  -- a literal is true where its negation is false
  neg_false : is_false values (neg l) ≡ true → is_true values l ≡ true
  neg_false f = go (same? (get_or values (var l) 0) l_undef)
    where
      was : value_for (get_or values (var l) 0) (neg l) ≡ l_false
      was = ap (λ v. value_for (get_or values v 0) (neg l)) (sym (var-neg l)) ∙ eqb-true (value_lit values (neg l)) l_false f

      go : (get_or values (var l) 0 ≡ l_undef) ⊎ (get_or values (var l) 0 ≢ l_undef) → is_true values l ≡ true
      go (inl e) = absurd (omega (arith, sym was ∙ value_undef (get_or values (var l) 0) (neg l) e))
      go (inr n) =
          eq-eqb (value_lit values l) l_true
          (value_other (get_or values (var l) 0) l n ∙ omega (arith, sym (value_other (get_or values (var l) 0) (neg l) n) ∙ was))

-- ---- what is dropped, and what is kept

distinct_once : (ls : List ℕ) → Distinct ls → (a b : ℕ) → a ∈ ls → b ∈ ls → var a ≡ var b → a ≡ b
distinct_once [] d a b i j e = absurd (not-nil i)
distinct_once (x ∷ ls) d a b (here p) (here q) e = p ∙ sym q
distinct_once (x ∷ ls) d a b (here p) (there j) e = absurd (d.0 b j (sym e ∙ ap var p))
distinct_once (x ∷ ls) d a b (there i) (here q) e = absurd (d.0 a i (e ∙ ap var q))
distinct_once (x ∷ ls) d a b (there i) (there j) e = distinct_once ls d.1 a b i j e

module _ {values c kept : List ℕ} (r : Residue values c kept) where
  kept_open : (l : ℕ) → l ∈ kept → is_true values l ≡ true → ⊥
  kept_open l i t = true≢false (sym t ∙ (r.unset l i).0)

  -- a clause that leaves something to keep is not one to drop
  undropped : Dropped values c → ⊥
  undropped d = split d.why (λ t. one t (r.gone l d.member)) (λ j. two (r.gone l d.member) (r.gone (neg l) j))
    where
      l : ℕ
      l = d.literal

      one : is_true values l ≡ true → (l ∈ kept) ⊎ (is_false values l ≡ true) → ⊥
      one t (inl i) = kept_open l i t
      one t (inr f) = true_not_false values l t f

      two : (l ∈ kept) ⊎ (is_false values l ≡ true) → (neg l ∈ kept) ⊎ (is_false values (neg l) ≡ true) → ⊥
      two (inl i) (inl j) = neg_ne l (distinct_once kept r.distinct (neg l) l j i (var-neg l))
      two (inl i) (inr g) = kept_open l i (neg_false values l g)
      two (inr f) (inl j) = kept_open (neg l) j (neg_false values (neg l) (rw (neg-neg l) f))
      two (inr f) (inr g) = true_not_false values l (neg_false values l g) f

  -- kept are the literals that are not false
  pub kept_exactly : (l : ℕ) → (l ∈ kept) ↔ ((l ∈ c) × (is_false values l ≡ false))
  kept_exactly l =
      (λ i. (r.among l i, (r.unset l i).1), λ p. split (r.gone l p.0) (λ i. i) (λ f. absurd (true≢false (sym f ∙ p.1))))

-- a clause is dropped exactly if it is true already, or holds both signs of a variable
pub dropped_exactly : (n : ℕ) (values c : List ℕ) → 2 * n ≤ undef_lit → Every (λ l. l < 2 * n) c
    → (simplify values undef_lit [] (sort c) ≡ none) ↔ Dropped values c
dropped_exactly n values c small range = go (simplify values undef_lit [] (sort c)) (reduced n values c small range)
  where
    go : (o : Option (List ℕ)) → Reduced values c o → (o ≡ none) ↔ Dropped values c
    go o (void l i w) = (λ e. record { literal = l; member = i; why = w }, λ d. refl)
    go o (left kept r) = (λ e. absurd (let z : ◌≡◌ {A = ℕ} 0 1 = cc in omega arith), λ d. absurd (undropped r d))

-- ---- as many are kept, whatever the order

without : {x : ℕ} {ys : List ℕ} → x ∈ ys → List ℕ
without (here {xs = ys} e) = ys
without (there {x = y} i) = y ∷ without i

without-length : {x : ℕ} {ys : List ℕ} (i : x ∈ ys) → length ys ≡ suc (length (without i))
unfolding without
without-length (here e) = refl
without-length (there i) = ap suc (without-length i)

without_in : {x : ℕ} {ys : List ℕ} (i : x ∈ ys) (m : ℕ) → m ∈ ys → m ≢ x → m ∈ without i
unfolding without
without_in (here e) m (here f) n = absurd (n (f ∙ sym e))
without_in (here e) m (there j) n = j
without_in (there i) m (here f) n = here f
without_in (there i) m (there j) n = there (without_in i m j n)

distinct_sub : (xs ys : List ℕ) → Distinct xs → Every (λ l. l ∈ ys) xs → length xs ≤ length ys
distinct_sub [] ys d h = omega arith
distinct_sub (x ∷ xs) ys d h =
    let i = h x (here refl) in
    omega (
      arith,
      without-length i,
      distinct_sub xs (without i) d.1 (λ m j. without_in i m (h m (there j)) (λ e. d.0 m j (ap var e))),
    )

same_kept : {values c k k' : List ℕ} → Residue values c k → Residue values c k' → length k ≡ length k'
same_kept {values} {c} {k} {k'} r r' = omega (arith, distinct_sub k k' r.distinct (within r r'), distinct_sub k' k r'.distinct (within r' r))
  where
    within : {a b : List ℕ} → Residue values c a → Residue values c b → Every (λ l. l ∈ b) a
    within p q l i = (kept_exactly q l).1 ((kept_exactly p l).0 i)

-- ---- storage

module _ (cfg : Config) (st : Store) (c : List ℕ) where
  pub no_room : length st.clauses ≤ cfg.max_clauses → has_room cfg st c ≡ false → Full cfg st c
  no_room h e =
      split (less? (length st.clauses) cfg.max_clauses)
      (λ a. split (less? cfg.max_literals (stored_literals st.clauses + length c)) (λ b. inr (omega arith))
      (λ b. absurd (true≢false (sym (room_back cfg st c (record { clauses = a; literals = b })) ∙ e))))
      (λ a. inl (omega arith))

  pub room_not : Full cfg st c → has_room cfg st c ≡ true → ⊥
  room_not (inl e) r = omega (arith, (room cfg st c r).clauses)
  room_not (inr h) r = omega (arith, (room cfg st c r).literals)

module _ {cfg : Config} {s : State} (st : Stored cfg s.store) {c : List ℕ} where
  answered : {t : Taken} → Intaken cfg s c t → t.answer ≡ 2 → NoStorage cfg s c
  answered (closed e) z = absurd (omega arith)
  answered (dropped_clause e l i w) z = absurd (omega arith)
  answered (emptied e r) z = absurd (omega arith)
  answered (unit_left e l r) z = absurd (omega arith)
  answered (stored_clause e a b more r x) z = absurd (omega arith)
  answered (no_storage e a b more r x) z =
      record {
        ok = e;
        not_dropped = undropped r;
        kept = a ∷ b ∷ more;
        residue = r;
        two = omega arith;
        full = no_room cfg s.store (a ∷ b ∷ more) st.clauses x;
      }

  refuses : {t : Taken} → Intaken cfg s c t → NoStorage cfg s c → t.answer ≡ 2
  refuses (closed e) k = absurd (true≢false (sym k.ok ∙ e))
  refuses (dropped_clause e l i w) k = absurd (k.not_dropped (record { literal = l; member = i; why = w }))
  refuses (emptied e r) k = absurd (omega (arith, same_kept r k.residue, k.two))
  refuses (unit_left e l r) k = absurd (omega (arith, same_kept r k.residue, k.two))
  refuses (stored_clause e a b more r x) k =
      absurd (room_not cfg s.store (a ∷ b ∷ more)
      (rw (same_kept r k.residue) k.full) x)
  refuses (no_storage e a b more r x) k = refl

-- answer 2 comes exactly then
pub answer_two : {cfg : Config} {s : State} → Stored cfg s.store → 2 * cfg.variables ≤ undef_lit → (c : List ℕ)
    → Every (λ l. l < 2 * cfg.variables) c → ((add_clause cfg s c).answer ≡ 2) ↔ NoStorage cfg s c
answer_two {cfg} {s} st small c range = (answered st (intaken cfg s c small range), refuses st (intaken cfg s c small range))

-- ---- what is kept, on the trail

pub kept_of : {cfg : Config} {s : State} {c kept : List ℕ} → WellFormed cfg s → Every (λ l. l < 2 * cfg.variables) c
    → Residue s.vars.values c kept → Kept cfg.variables s.vars c kept
kept_of {cfg} {s} {c} {kept} w range k =
    let r : Every (λ l. l < 2 * cfg.variables) kept = λ l i. range l (k.among l i) in
    record {
      among = k.among;
      rest = λ l i. split (k.gone l i) inl (λ f. inr (on_is_false w.vars l (range l i) f));
      unset = λ l i. unset_of w.vars l (r l i) (k.unset l i).0 (k.unset l i).1;
      range = r;
      short = distinct-length cfg.variables kept k.distinct (λ l i. var_range l cfg.variables (r l i));
    }
