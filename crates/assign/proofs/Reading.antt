-- What an assignment says of its trail: the place of a literal, the value of every literal, levels along the trail, and how long the trail can be.
use Rattle.std.specs.Prelude.{◌≡◌, refl, ◌≢◌, ◌⊎◌, true, false, List, [], ◌∷◌, ◌++◌, reverse, ℕ, suc, ◌+◌, ◌*◌, ◌%◌, ◌≤◌, ◌<◌, length, get_or, take, drop}
use Rattle.std.proofs.Common.{ap, sym, ◌∙◌, subst, inl, inr, arith, length-take-le, eqb-true, eq-eqb, ne_eqb}
use mathlib.Core.List.Memᴰ.{cast}
use mathlib.Core.List.Memᴰ.{head as here}
use mathlib.Core.List.Memᴰ.{tail as there}
use Rattle.std.proofs.lemmas.List.{length-reverse}
use Rattle.std.proofs.lemmas.Bool.{eqb-false}
use Rattle.model.specs.Lit.{var, sign, neg, l_true, l_false, l_undef, value_for, value_lit, is_true, is_false}
use Rattle.model.specs.State.{VarState, level_lit, decision_level}
use Rattle.lawbase.specs.Basics.{◌∈◌, Every, every_cons, split, same?, less?, var-neg, var_range}
use Rattle.lawbase.specs.WellFormed.{Distinct, Entry, Entries, Assignment}
use Rattle.assign.proofs.Lists.{index, get_or_in_take, in_reverse, from_reverse, reverse_at, holds?, distinct-length}
use Rattle.assign.specs.Reading.{Place, Unset, Valued, is_set, is_negated, is_unset}

-- ---- entries

pub entries_end : (n : ℕ) (cs : List (List ℕ)) (vs : VarState) (xs ys : List ℕ) → Entries n cs vs (xs ++ ys) → Entries n cs vs ys
entries_end n cs vs [] ys e = e
entries_end n cs vs (x ∷ xs) ys e = entries_end n cs vs xs ys e.1

pub entries-distinct : (n : ℕ) (cs : List (List ℕ)) (vs : VarState) (l : List ℕ) → Entries n cs vs l → Distinct l
entries-distinct n cs vs [] e = tt
entries-distinct n cs vs (x ∷ l) e = (e.0.fresh, entries-distinct n cs vs l e.1)

-- entries under another state and other clauses: each for itself
pub entries-map : (n : ℕ) (cs cs' : List (List ℕ)) (vs vs' : VarState) (l : List ℕ)
    → ((p : ℕ) (before : List ℕ) → p ∈ l → length before < length l → Entry n cs vs p before → Entry n cs' vs' p before)
    → Entries n cs vs l → Entries n cs' vs' l
entries-map n cs cs' vs vs' [] f e = e
entries-map n cs cs' vs vs' (x ∷ l) f e =
    (f x l (here refl) (omega arith) e.0, entries-map n cs cs' vs vs' l (λ p b i h. f p b (there i) (omega arith)) e.1)

module _ {n : ℕ} {cs : List (List ℕ)} {vs : VarState} (w : Assignment n cs vs) where
  -- the literal at place i, counted from the oldest
  pub entry_at : (i : ℕ) → i < length vs.trail → Entry n cs vs (get_or vs.trail i 0) (reverse (take i vs.trail))
  entry_at i h =
      (entries_end n cs vs (reverse (drop (suc i) vs.trail)) (get_or vs.trail i 0 ∷ reverse (take i vs.trail))
      (rw (reverse_at vs.trail i 0 h) at w.entries)).0

  pub before_length : (i : ℕ) → i < length vs.trail → length (reverse (take i vs.trail)) ≡ i
  before_length i h = length-reverse (take i vs.trail) ∙ length-take-le i vs.trail (omega arith)

module _ {n : ℕ} {cs : List (List ℕ)} {vs : VarState} (w : Assignment n cs vs) where
  pub place : (p : ℕ) → p ∈ vs.trail → Place n cs vs p
  place p i =
      let k = index 0 i in
      record {
        at = k.at;
        inside = k.inside;
        literal = k.value;
        entry = subst (λ q. Entry n cs vs q (reverse (take k.at vs.trail))) k.value (entry_at w k.at k.inside);
        older = before_length w k.at k.inside;
      }

  pub trail_range : Every (λ p. p < 2 * n) vs.trail
  trail_range p i = (place p i).entry.range

  pub trail_var : Every (λ p. var p < n) vs.trail
  trail_var p i = var_range p n (trail_range p i)

  pub trail_valued : Every (λ p. get_or vs.values (var p) 0 ≡ sign p) vs.trail
  trail_valued p i = (place p i).entry.valued

  pub trail_level : Every (λ p. level_lit vs p ≤ decision_level vs) vs.trail
  trail_level p i = (place p i).entry.level

  -- an older literal is of another variable
  pub places_apart : (i j : ℕ) → i < j → j < length vs.trail → var (get_or vs.trail i 0) ≢ var (get_or vs.trail j 0)
  places_apart i j h b =
      (entry_at w j b).fresh (get_or vs.trail i 0) (in_reverse (get_or_in_take vs.trail j i 0 h (omega arith)))

  pub once_at : (i j : ℕ) → i < length vs.trail → j < length vs.trail → var (get_or vs.trail i 0) ≡ var (get_or vs.trail j 0) → i ≡ j
  once_at i j a b e =
      split (less? i j) (λ h. absurd (places_apart i j h b e)) (λ h. split (less? j i) (λ k. absurd (places_apart j i k a (sym e))) (λ k. omega arith))

  -- a variable stands once on the trail
  pub once : (p q : ℕ) → p ∈ vs.trail → q ∈ vs.trail → var p ≡ var q → p ≡ q
  once p q i j e =
      let a = place p i in
      let b = place q j in
      let s : a.at ≡ b.at = once_at a.at b.at a.inside b.inside (ap var a.literal ∙ e ∙ sym (ap var b.literal)) in
      sym a.literal ∙ ap (λ k. get_or vs.trail k 0) s ∙ b.literal

  pub not_both : (p : ℕ) → p ∈ vs.trail → neg p ∈ vs.trail → ⊥
  not_both p i j = omega (arith, once p (neg p) i j (sym (var-neg p)))

  -- an older literal is of the same level or a lower one
  pub levels_sorted : (i j : ℕ) → i ≤ j → j < length vs.trail → level_lit vs (get_or vs.trail i 0) ≤ level_lit vs (get_or vs.trail j 0)
  levels_sorted i j h b =
      let x = entry_at w i (omega arith) in
      let y = entry_at w j b in
      let k = level_lit vs (get_or vs.trail j 0) in
      split (less? k (level_lit vs (get_or vs.trail i 0)))
      (λ (l : k < level_lit vs (get_or vs.trail i 0)). absurd (omega (arith, y.below k (omega (arith, x.level)) (omega (arith, x.above k l, before_length w i (omega arith), before_length w j b)))))
      (λ l. l)

  pub trail_distinct : Distinct (reverse vs.trail)
  trail_distinct = entries-distinct n cs vs (reverse vs.trail) w.entries

  -- each variable is on the trail once at most
  pub trail_length : length vs.trail ≤ n
  trail_length =
      omega (
        arith,
        distinct-length n (reverse vs.trail) trail_distinct (λ q i. trail_var q (from_reverse vs.trail i)),
        length-reverse vs.trail,
      )

-- ---- values

-- a literal and its negation have one variable
pub unset-neg : (vs : VarState) (l : ℕ) → Unset vs (neg l) → Unset vs l
unset-neg vs l u = subst (λ v. get_or vs.values v 0 ≡ l_undef) (var-neg l) u

pub neg-unset : (vs : VarState) (l : ℕ) → Unset vs l → Unset vs (neg l)
neg-unset vs l u = subst (λ v. get_or vs.values v 0 ≡ l_undef) (sym (var-neg l)) u

pub value_undef : (x l : ℕ) → x ≡ l_undef → value_for x l ≡ l_undef
value_undef x l e = rw (eq-eqb x l_undef e, value_for)

pub value_set : (x l : ℕ) → x < 2 → value_for x l ≡ (x + sign l) % 2
value_set x l h = rw (ne_eqb x l_undef (λ e. omega arith), value_for)

pub unset_tests : (vs : VarState) (l : ℕ) → Unset vs l → (is_true vs.values l ≡ false) × (is_false vs.values l ≡ false)
unset_tests vs l u =
    let y = value_undef (get_or vs.values (var l) 0) l u in
    (ne_eqb (value_lit vs.values l) l_true (λ e. omega (arith, sym e ∙ y)), ne_eqb (value_lit vs.values l) l_false (λ e. omega (arith, sym e ∙ y)))

module _ {n : ℕ} {cs : List (List ℕ)} {vs : VarState} (w : Assignment n cs vs) where
  pub true_value : (l : ℕ) → l ∈ vs.trail → value_lit vs.values l ≡ l_true
  true_value l i =
      let x = trail_valued w l i in
      value_set (get_or vs.values (var l) 0) l (omega arith) ∙ omega arith

  pub false_value : (l : ℕ) → neg l ∈ vs.trail → value_lit vs.values l ≡ l_false
  false_value l i =
      let x : get_or vs.values (var l) 0 ≡ sign (neg l) = ap (λ k. get_or vs.values k 0) (sym (var-neg l)) ∙ trail_valued w (neg l) i in
      value_set (get_or vs.values (var l) 0) l (omega arith) ∙ omega arith

  pub unset-value : (l : ℕ) → l < 2 * n → Every (λ q. var q ≢ var l) vs.trail → Unset vs l
  unset-value l h f = w.unset (var l) (var_range l n h) f

  pub valued : (l : ℕ) → l < 2 * n → Valued vs l
  valued l h = go (holds? (var l) vs.trail)
    where
      same : (q : ℕ) → q ∈ vs.trail → (q ≡ l) ⊎ (q ≢ l) → var q ≡ var l → Valued vs l
      same q i (inl e) v = let j = cast (sym e) i in is_set j (true_value l j)
      same q i (inr d) v = let j : neg l ∈ vs.trail = cast (omega arith) i in is_negated j (false_value l j)

      go : ((q : ℕ) × (q ∈ vs.trail) × (var q ≡ var l)) ⊎ Every (λ q. var q ≢ var l) vs.trail → Valued vs l
      go (inl k) = same k.0 k.1 (same? k.0 l) k.2
      go (inr f) = is_unset f (unset-value l h f) (value_undef (get_or vs.values (var l) 0) l (unset-value l h f))

  -- a cell of the values is 0, 1 or 2
  pub value_cell : (v : ℕ) → v < n → get_or vs.values v 0 ≤ 2
  value_cell v h = go (holds? v vs.trail)
    where
      go : ((q : ℕ) × (q ∈ vs.trail) × (var q ≡ v)) ⊎ Every (λ q. var q ≢ v) vs.trail → get_or vs.values v 0 ≤ 2
      go (inl k) = rw (← k.2) (omega (arith, trail_valued w k.0 k.1))
      go (inr f) = omega (arith, w.unset v h f)

  pub is_true_on : (l : ℕ) → l ∈ vs.trail → is_true vs.values l ≡ true
  is_true_on l i = eq-eqb (value_lit vs.values l) l_true (true_value l i)

  pub is_false_on : (l : ℕ) → neg l ∈ vs.trail → is_false vs.values l ≡ true
  is_false_on l i = eq-eqb (value_lit vs.values l) l_false (false_value l i)

  pub on_is_true : (l : ℕ) → l < 2 * n → is_true vs.values l ≡ true → l ∈ vs.trail
  on_is_true l h e = go (eqb-true (value_lit vs.values l) l_true e) (valued l h)
    where
      go : value_lit vs.values l ≡ l_true → Valued vs l → l ∈ vs.trail
      go x (is_set i y) = i
      go x (is_negated i y) = absurd (omega (arith, sym x ∙ y))
      go x (is_unset f u y) = absurd (omega (arith, sym x ∙ y))

  pub on_is_false : (l : ℕ) → l < 2 * n → is_false vs.values l ≡ true → neg l ∈ vs.trail
  on_is_false l h e = go (eqb-true (value_lit vs.values l) l_false e) (valued l h)
    where
      go : value_lit vs.values l ≡ l_false → Valued vs l → neg l ∈ vs.trail
      go x (is_set i y) = absurd (omega (arith, sym x ∙ y))
      go x (is_negated i y) = i
      go x (is_unset f u y) = absurd (omega (arith, sym x ∙ y))

  -- neither true nor false
  pub unset_of : (l : ℕ) → l < 2 * n → is_true vs.values l ≡ false → is_false vs.values l ≡ false → Unset vs l
  unset_of l h t f = go (eqb-false (value_lit vs.values l) l_true t) (eqb-false (value_lit vs.values l) l_false f) (valued l h)
    where
      go : value_lit vs.values l ≢ l_true → value_lit vs.values l ≢ l_false → Valued vs l → Unset vs l
      go a b (is_set i y) = absurd (a y)
      go a b (is_negated i y) = absurd (b y)
      go a b (is_unset g u y) = u

  pub unset_of_value : (l : ℕ) → l < 2 * n → value_lit vs.values l ≡ l_undef → Unset vs l
  unset_of_value l h x = go (valued l h)
    where
      go : Valued vs l → Unset vs l
      go (is_set i y) = absurd (omega (arith, sym x ∙ y))
      go (is_negated i y) = absurd (omega (arith, sym x ∙ y))
      go (is_unset g u y) = u

  -- an unset variable has no literal on the trail
  pub unset-fresh : (l : ℕ) → Unset vs l → Every (λ q. var q ≢ var l) vs.trail
  unset-fresh l u q i e =
      let x : get_or vs.values (var l) 0 ≡ sign q = ap (λ k. get_or vs.values k 0) (sym e) ∙ trail_valued w q i in
      omega arith

  -- an unset variable leaves room on the trail
  pub trail_room : (l : ℕ) → l < 2 * n → Unset vs l → length vs.trail < n
  trail_room l h u =
      let f : Every (λ q. var q ≢ var l) (reverse vs.trail) = λ q i. unset-fresh l u q (from_reverse vs.trail i) in
      omega (
        arith,
        distinct-length n (l ∷ reverse vs.trail) (f, trail_distinct w)
            (every_cons (λ q. var q < n) (var_range l n h) (λ q i. trail_var w q (from_reverse vs.trail i))),
        length-reverse vs.trail,
      )
