-- `highest_first`: a literal of the highest level, the earliest on a tie, changes places with the first one.
use Rattle.std.specs.Prelude.{◌≡◌, refl, ◌≢◌, ◌⊎◌, ◌↔◌, List, [], ◌∷◌, ◌++◌, ℕ, suc, zero, ◌+◌, ◌≤◌, ◌<◌, length, get_or, take, drop, set}
use Rattle.std.proofs.Common.{ap, sym, ◌∙◌, subst, inl, inr, arith, length-append, length-take, length-drop, get_or-take, get_or-drop, drop-cons, lt-ltb, le-ltb}
use mathlib.Core.List.Memᴰ.{append_cases}
use mathlib.Core.List.Memᴰ.{append_left as in_left}
use mathlib.Core.List.Memᴰ.{append_right as in_right}
use mathlib.Core.List.Memᴰ.{head as here}
use mathlib.Core.List.Memᴰ.{tail as there}
use Rattle.std.proofs.lemmas.List.{set_split}
use Rattle.std.proofs.Math.Seq.{split_at}
use Rattle.model.specs.Lit.{var}
use Rattle.model.specs.State.{VarState, level_lit}
use Rattle.model.specs.Analyze.{highest, highest_first, backtrack_level}
use Rattle.lawbase.specs.Basics.{◌∈◌, Every, every_nil, every_cons, every_append, shrink, split, same?, less?}
use Rattle.lawbase.specs.WellFormed.{Distinct}
use Rattle.learning.specs.Highest.{Top, Headed, stays, moves, empty}

-- ---- the place that `highest` finds

-- so far, up to place i
record Far (vs : VarState) (L : List ℕ) (best level i : ℕ) : Type 0 where
  before : best < i
  is : level ≡ level_lit vs (get_or L best 0)
  earlier : (j : ℕ) → j < best → level_lit vs (get_or L j 0) < level
  most : (j : ℕ) → j < i → level_lit vs (get_or L j 0) ≤ level

highest_cases : (P : ℕ → Type 0) (vs : VarState) (best level i l : ℕ) (ls : List ℕ)
    → (level < level_lit vs l → P (highest vs i (level_lit vs l) (suc i) ls)) → (level_lit vs l ≤ level → P (highest vs best level (suc i) ls))
    → P (highest vs best level i (l ∷ ls))
unfolding highest
highest_cases P vs best level i l ls f g = split (less? level (level_lit vs l))
    (λ h. rw (lt-ltb level (level_lit vs l) h, highest) (f h))
    (λ h. rw (le-ltb level (level_lit vs l) h, highest) (g h))

far_new : (vs : VarState) (L : List ℕ) (best level i l : ℕ) → Far vs L best level i → get_or L i 0 ≡ l → level < level_lit vs l
    → Far vs L i (level_lit vs l) (suc i)
far_new vs L best level i l f e h =
    record {
      before = omega arith;
      is = rw e refl;
      earlier = λ j k. omega (arith, f.most j k);
      most = λ j k. split (same? j i) (λ c. rw (c, e) (omega arith)) (λ c. omega (arith, f.most j (omega arith)));
    }

far_same : (vs : VarState) (L : List ℕ) (best level i l : ℕ) → Far vs L best level i → get_or L i 0 ≡ l → level_lit vs l ≤ level
    → Far vs L best level (suc i)
far_same vs L best level i l f e h =
    record {
      before = omega (arith, f.before);
      is = f.is;
      earlier = f.earlier;
      most = λ j k. split (same? j i) (λ c. rw (c, e) h) (λ c. f.most j (omega arith));
    }

highest_law : (vs : VarState) (L ls : List ℕ) (best level i : ℕ) → drop i L ≡ ls → i ≤ length L → Far vs L best level i
    → Top vs L (highest vs best level i ls)
unfolding highest
highest_law vs L [] best level i d b f =
    let e : length L ≤ i = omega (arith, sym (length-drop i L) ∙ ap length d) in
    record {
      inside = omega (arith, f.before);
      earlier = λ j k. rw (← f.is) (f.earlier j k);
      most = λ j k. rw (← f.is) (f.most j (omega arith));
    }
highest_law vs L (l ∷ ls) best level i d b f =
    let h : i < length L = omega (arith, sym (length-drop i L) ∙ ap length d) in
    let c : get_or L i 0 ∷ drop (suc i) L ≡ l ∷ ls = sym (drop-cons L i 0 h) ∙ d in
    let e : get_or L i 0 ≡ l = ap (λ x. get_or x 0 0) c in
    let r : drop (suc i) L ≡ ls = ap (drop 1) c in
    highest_cases (Top vs L) vs best level i l ls
    (λ k. highest_law vs L ls i (level_lit vs l) (suc i) r h (far_new vs L best level i l f e k))
    (λ k. highest_law vs L ls best level (suc i) r h (far_same vs L best level i l f e k))

highest_top : (vs : VarState) (l : ℕ) (ls : List ℕ) → Top vs (l ∷ ls) (highest vs 0 (level_lit vs l) 1 ls)
highest_top vs l ls =
    highest_law vs (l ∷ ls) ls 0 (level_lit vs l) 1 refl (omega arith)
    (record { before = omega arith; is = refl; earlier = λ j k. absurd (omega arith); most = λ j k. first j k })
  where
    first : (j : ℕ) → j < 1 → level_lit vs (get_or (l ∷ ls) j 0) ≤ level_lit vs l
    first zero k = omega arith
    first (suc j) k = absurd (omega arith)

-- ---- the list that comes of it

-- by place
by_place : (P : ℕ → Type 0) (ls : List ℕ) → ((j : ℕ) → j < length ls → P (get_or ls j 0)) → Every P ls
by_place P [] h = every_nil P
by_place P (x ∷ ls) h = every_cons P (h 0 (omega arith)) (by_place P ls (λ j k. h (suc j) (omega arith)))

headed_at : (vs : VarState) (l : ℕ) (ls : List ℕ) (b : ℕ) → Top vs (l ∷ ls) b → Headed vs (l ∷ ls) (set (set (l ∷ ls) 0 (get_or (l ∷ ls) b 0)) b l)
headed_at vs l ls zero t = stays (by_place (λ q. level_lit vs q ≤ level_lit vs l) ls (λ j k. t.most (suc j) (omega arith)))
headed_at vs l ls (suc k) t =
    let h : k < length ls = omega (arith, t.inside) in
    let y = get_or ls k 0 in
    let m : Headed vs (l ∷ take k ls ++ (y ∷ drop (suc k) ls)) (y ∷ take k ls ++ (l ∷ drop (suc k) ls)) =
    moves (every_cons (λ q. level_lit vs q < level_lit vs y) (t.earlier 0 (omega arith))
    (by_place (λ q. level_lit vs q < level_lit vs y) (take k ls) (λ j i.
    let s : j < k = omega (arith, length-take k ls) in
    rw (get_or-take k ls j 0 s) (t.earlier (suc j) (omega arith)))))
    (by_place (λ q. level_lit vs q ≤ level_lit vs y) (drop (suc k) ls) (λ j i.
    rw (get_or-drop (suc k) ls j 0) (t.most (suc (suc k + j)) (omega (arith, length-drop (suc k) ls))))) in
    rw (set_split ls k l h) (subst (λ x. Headed vs (l ∷ x) (y ∷ take k ls ++ (l ∷ drop (suc k) ls))) (sym (split_at ls k 0 h)) m)

pub highest_first_law : (vs : VarState) (L : List ℕ) → Headed vs L (highest_first vs L)
unfolding highest_first
highest_first_law vs [] = empty
highest_first_law vs (l ∷ ls) = headed_at vs l ls (highest vs 0 (level_lit vs l) 1 ls) (highest_top vs l ls)

-- ---- what follows of it

swap_in : (q l y : ℕ) (xs ys : List ℕ) → q ∈ (l ∷ xs ++ (y ∷ ys)) → q ∈ (y ∷ xs ++ (l ∷ ys))
swap_in q l y xs ys (here e) = there (in_right xs (here e))
swap_in q l y xs ys (there i) = go (append_cases xs i)
  where
    go : (q ∈ xs) ⊎ (q ∈ (y ∷ ys)) → q ∈ (y ∷ xs ++ (l ∷ ys))
    go (inl j) = there (in_left (l ∷ ys) j)
    go (inr (here e)) = here e
    go (inr (there j)) = there (in_right xs (there j))

pub headed_all : {vs : VarState} {L K : List ℕ} → Headed vs L K → Every (λ q. q ∈ K) L
headed_all empty q i = i
headed_all (stays h) q i = i
headed_all (moves {l = l} {y = y} {xs = xs} {ys = ys} h g) q i = swap_in q l y xs ys i

pub headed_only : {vs : VarState} {L K : List ℕ} → Headed vs L K → Every (λ q. q ∈ L) K
headed_only empty q i = i
headed_only (stays h) q i = i
headed_only (moves {l = l} {y = y} {xs = xs} {ys = ys} h g) q i = swap_in q y l xs ys i

pub headed_length : {vs : VarState} {L K : List ℕ} → Headed vs L K → length K ≡ length L
headed_length empty = refl
headed_length (stays h) = refl
headed_length (moves {l = l} {y = y} {xs = xs} {ys = ys} h g) = omega (arith, length-append xs (l ∷ ys), length-append xs (y ∷ ys))

-- one literal of a list in another's place
distinct_put : (xs ys : List ℕ) (l y : ℕ) → Distinct (xs ++ (y ∷ ys)) → Every (λ m. var m ≢ var l) (xs ++ (y ∷ ys)) → Distinct (xs ++ (l ∷ ys))
distinct_put [] ys l y d h = (shrink h, d.1)
distinct_put (x ∷ xs) ys l y d h = (go, distinct_put xs ys l y d.1 (shrink h))
  where
    go : Every (λ m. var m ≢ var x) (xs ++ (l ∷ ys))
    go = every_append (λ m. var m ≢ var x) xs (λ m i. d.0 m (in_left (y ∷ ys) i))
        (every_cons (λ m. var m ≢ var x) (λ e. h x (here refl) (sym e)) (λ m i. d.0 m (in_right xs (there i))))

apart_put : (xs ys : List ℕ) (l y : ℕ) → Distinct (xs ++ (y ∷ ys)) → Every (λ m. var m ≢ var l) (xs ++ (y ∷ ys))
    → Every (λ m. var m ≢ var y) (xs ++ (l ∷ ys))
apart_put [] ys l y d h = every_cons (λ m. var m ≢ var y) (λ e. h y (here refl) (sym e)) d.0
apart_put (x ∷ xs) ys l y d h =
    every_cons (λ m. var m ≢ var y) (λ e. d.0 y (in_right xs (here refl)) (sym e)) (apart_put xs ys l y d.1 (shrink h))

pub headed_distinct : {vs : VarState} {L K : List ℕ} → Headed vs L K → Distinct L → Distinct K
headed_distinct empty d = d
headed_distinct (stays h) d = d
headed_distinct (moves {l = l} {y = y} {xs = xs} {ys = ys} h g) d = (apart_put xs ys l y d.1 d.0, distinct_put xs ys l y d.1 d.0)

-- the level to go back to is the highest there is
pub headed_top : {vs : VarState} {L K : List ℕ} → Headed vs L K → Every (λ q. level_lit vs q ≤ backtrack_level vs K) K
unfolding backtrack_level
headed_top {vs} empty = every_nil (λ q. level_lit vs q ≤ 0)
headed_top {vs} (stays {l = l} {ls = ls} h) = every_cons (λ q. level_lit vs q ≤ level_lit vs l) (omega arith) h
headed_top {vs} (moves {l = l} {y = y} {xs = xs} {ys = ys} h g) =
    every_cons (λ q. level_lit vs q ≤ level_lit vs y) (omega arith)
    (every_append (λ q. level_lit vs q ≤ level_lit vs y) xs (λ q i. omega (arith, h q (there i)))
    (every_cons (λ q. level_lit vs q ≤ level_lit vs y) (omega (arith, h l (here refl))) g))

-- it is the level of the clause's second literal, and 0 for a unit
pub backtrack_below : (vs : VarState) (K : List ℕ) (d : ℕ) → 0 < d → Every (λ q. level_lit vs q < d) K → backtrack_level vs K < d
unfolding backtrack_level
backtrack_below vs [] d z h = z
backtrack_below vs (l ∷ K) d z h = h l (here refl)

pub backtrack_unit : (vs : VarState) (K : List ℕ) → Every (λ q. 0 < level_lit vs q) K → backtrack_level vs K ≡ 0 ↔ K ≡ []
unfolding backtrack_level
backtrack_unit vs [] h = (λ _. refl, λ _. refl)
backtrack_unit vs (l ∷ K) h = (λ e. absurd (omega (arith, h l (here refl))), λ e. let z : ◌≡◌ {A = ℕ} 0 1 = cc in absurd (omega arith))
