-- Bytes written from a place on, as far as there is room.
use Rattle.std.specs.Prelude.{ℕ, zero, suc, ◌+◌, ◌-◌, ◌/◌, ◌%◌, ◌≤◌, ◌<◌, min, ◌≡◌, refl, List, [], ◌∷◌, ◌++◌, length, get_or, take, drop, set}
use Rattle.std.proofs.Common.{sym, ap, subst, ◌∙◌, append_assoc, arith, add-zero, length-append, length-take-le, take-append-drop, drop_of_length-le, drop-drop, lt-ltb, le-ltb}
use Rattle.std.proofs.Math.Decide.{dec_lt}
use Rattle.std.proofs.lemmas.List.{ext_get_or}
use Rattle.std.proofs.lemmas.List.Edits.{sets, sets-eq}
use Rattle.std.proofs.Math.Seq.{length-sets, set_out}
use Rattle.text.specs.Number.{digits_of, shown}
use Rattle.text.specs.Format.{lines_from}

-- the bytes xs written from `at` on, and the place behind them, both up to the slice's end
pub record Written (before : List ℕ) (at : ℕ) (xs : List ℕ) (after : List ℕ) (r : ℕ) : Type 0 where
  pub slice : after ≡ sets before at xs
  pub end : r ≡ min (length before) (at + length xs)

sets-append : (s : List ℕ) (i : ℕ) (xs ys : List ℕ) → sets s i (xs ++ ys) ≡ sets (sets s i xs) (i + length xs) ys
sets-append s i [] ys = rw (add-zero i)
sets-append s i (x ∷ xs) ys =
    let q : i + suc (length xs) ≡ suc i + length xs = omega arith in
    rw q (sets-append (set s i x) (suc i) xs ys)

pub sets_out : (s : List ℕ) (i : ℕ) (xs : List ℕ) → length s ≤ i → sets s i xs ≡ s
sets_out s i [] h = refl
sets_out s i (x ∷ xs) h = rw (set_out s i x h) (sets_out s (suc i) xs (omega arith))

sets_clipped : (s : List ℕ) (i : ℕ) (xs : List ℕ) → sets s (min (length s) i) xs ≡ sets s i xs
sets_clipped s i xs = go (dec_lt i (length s))
  where
    go : Dec (i < length s) → sets s (min (length s) i) xs ≡ sets s i xs
    go (yes h) = let e : min (length s) i ≡ i = omega arith in rw e
    go (no h) = sets_out s (min (length s) i) xs (omega arith) ∙ sym (sets_out s i xs (omega arith))

pub written_none : (s : List ℕ) (at : ℕ) → at ≤ length s → Written s at [] s at
written_none s at h = record { slice = refl; end = omega arith }

pub written_long : {s : List ℕ} {at : ℕ} {xs s' : List ℕ} {r : ℕ} → Written s at xs s' r → length s' ≡ length s
written_long {s} {at} {xs} w = ap length w.slice ∙ length-sets s at xs

pub written_in : {s : List ℕ} {at : ℕ} {xs s' : List ℕ} {r : ℕ} → Written s at xs s' r → r ≤ length s'
written_in w = omega (arith, w.end, written_long w)

-- one behind the other
pub joined : {s : List ℕ} {at : ℕ} {xs s' : List ℕ} {r : ℕ} {ys s'' : List ℕ} {r' : ℕ} → Written s at xs s' r → Written s' r ys s'' r' → Written s at (xs ++ ys) s'' r'
joined {s} {at} {xs} {s'} {r} {ys} {s''} {r'} w v =
    let l : length s' ≡ length s = written_long w in
    let e : r ≡ min (length s') (at + length xs) = w.end ∙ ap (λ (n : ℕ). min n (at + length xs)) (sym l) in
    record {
      slice =
          v.slice ∙ ap (λ (k : ℕ). sets s' k ys) e ∙ sets_clipped s' (at + length xs) ys ∙ ap (λ (t : List ℕ). sets t (at + length xs) ys) w.slice
          ∙ sym (sets-append s at xs ys);
      end = omega (arith, v.end, w.end, l, length-append xs ys);
    }

pub written_as : {s : List ℕ} {at : ℕ} {xs s' : List ℕ} {r : ℕ} (ys : List ℕ) → Written s at xs s' r → xs ≡ ys → Written s at ys s' r
written_as ys w e = rw e at w

-- one byte
pub put_one : (s : List ℕ) (at b : ℕ) → at < length s → Written s at (b ∷ []) (set s at b) (at + 1)
put_one s at b h = record { slice = refl; end = omega arith }

pub put_none : (s : List ℕ) (at b : ℕ) → at ≡ length s → Written s at (b ∷ []) s at
put_none s at b h = record { slice = sym (set_out s at b (omega arith)); end = omega arith }

-- as many bytes as there is room for, copied behind `at`
pub written_part : (s : List ℕ) (at n : ℕ) (xs : List ℕ) → at ≤ length s → n ≡ min (length xs) (length s - at)
    → Written s at xs (take at s ++ take n xs ++ drop (at + n) s) (at + n)
written_part s at n xs h e =
    let l : length (take n xs) ≡ n = length-take-le n xs (omega arith) in
    let w : sets s at (take n xs) ≡ take at s ++ take n xs ++ drop (at + n) s =
    sets-eq (take n xs) s at (omega arith) ∙ ap (λ (k : ℕ). take at s ++ take n xs ++ drop (at + k) s) l in
    let all : sets s at xs ≡ sets (sets s at (take n xs)) (at + n) (drop n xs) =
    ap (sets s at) (sym (take-append-drop n xs)) ∙ sets-append s at (take n xs) (drop n xs) ∙ ap (λ (k : ℕ). sets (sets s at (take n xs)) (at + k) (drop n xs)) l in
    record { slice = sym (all ∙ behind (dec_lt n (length xs)) ∙ w); end = omega arith }
  where
    behind : Dec (n < length xs) → sets (sets s at (take n xs)) (at + n) (drop n xs) ≡ sets s at (take n xs)
    behind (yes k) = sets_out (sets s at (take n xs)) (at + n) (drop n xs) (omega (arith, length-sets s at (take n xs)))
    behind (no k) = ap (sets (sets s at (take n xs)) (at + n)) (drop_of_length-le xs (omega arith))

pub written_copied : {s xs mid after : List ℕ} {at n : ℕ} → at ≤ length s → n ≡ min (length xs) (length s - at) → mid ≡ take n xs
    → after ≡ take at s ++ (mid ++ drop (at + n - at) (drop at s)) → Written s at xs after (at + n)
written_copied {s} {xs} {mid} {after} {at} {n} h e m a =
    let k : at + (at + n - at) ≡ at + n = omega arith in
    subst (λ (t : List ℕ). Written s at xs t (at + n))
    (sym
    (a ∙ ap (λ (t : List ℕ). take at s ++ (t ++ drop (at + n - at) (drop at s))) m ∙ ap (λ (t : List ℕ). take at s ++ (take n xs ++ t)) (drop-drop (at + n - at) at s ∙ ap (λ (i : ℕ). drop i s) k)
    ∙ sym (append_assoc (take at s) (take n xs) (drop (at + n) s))))
    (written_part s at n xs h e)

-- ---- digits

digits_one : (t n : ℕ) → n < 10 → digits_of t n ≡ (48 + n) ∷ []
unfolding digits_of
digits_one zero n h = refl
digits_one (suc t) n h = rw (lt-ltb n 10 h, digits_of)

digits_more : (t n : ℕ) → 10 ≤ n → digits_of (suc t) n ≡ digits_of t (n / 10) ++ (48 + n % 10) ∷ []
unfolding digits_of
digits_more t n h = rw (le-ltb n 10 h, digits_of)

digits_enough : (t u n : ℕ) → n ≤ t → n ≤ u → digits_of t n ≡ digits_of u n
digits_enough zero u n h k = digits_one zero n (omega arith) ∙ sym (digits_one u n (omega arith))
digits_enough (suc t) zero n h k = digits_one (suc t) n (omega arith) ∙ sym (digits_one zero n (omega arith))
digits_enough (suc t) (suc u) n h k = go (λ a b. digits_enough t u (n / 10) a b) (dec_lt n 10)
  where
    go : (n / 10 ≤ t → n / 10 ≤ u → digits_of t (n / 10) ≡ digits_of u (n / 10)) → Dec (n < 10) → digits_of (suc t) n ≡ digits_of (suc u) n
    go ih (yes l) = digits_one (suc t) n l ∙ sym (digits_one (suc u) n l)
    go ih (no l) =
        digits_more t n (omega arith) ∙ ap (λ (xs : List ℕ). xs ++ (48 + n % 10) ∷ []) (ih (omega arith) (omega arith)) ∙ sym (digits_more u n (omega arith))

pub shown_one : (n : ℕ) → n < 10 → shown n ≡ (48 + n) ∷ []
unfolding shown
shown_one n h = digits_one n n h

pub shown_more : (n : ℕ) → 10 ≤ n → shown n ≡ shown (n / 10) ++ (48 + n % 10) ∷ []
unfolding shown
shown_more zero h = absurd (omega arith)
shown_more (suc n) h =
    digits_more n (suc n) h ∙ ap (λ (xs : List ℕ). xs ++ (48 + suc n % 10) ∷ []) (digits_enough n (suc n / 10) (suc n / 10) (omega arith) (omega arith))

-- ---- the lines of records

lines_long : (line n : ℕ) → length (lines_from line n) ≡ n
unfolding lines_from
lines_long line zero = refl
lines_long line (suc n) = ap suc (lines_long (line + 1) n)

lines_at : (line n i : ℕ) → i < n → get_or (lines_from line n) i 0 ≡ i + line
unfolding lines_from
lines_at line zero i h = absurd (omega arith)
lines_at line (suc n) zero h = omega arith
lines_at line (suc n) (suc i) h = lines_at (line + 1) n i (omega arith) ∙ omega arith

-- cells that are each the line of their record
pub lines_are : (s : List ℕ) (n : ℕ) → length s ≡ n → ((k : ℕ) → k < n → get_or s k 0 ≡ k + 5) → s ≡ lines_from 5 n
lines_are s n e h =
    ext_get_or 0 s (lines_from 5 n) (e ∙ sym (lines_long 5 n)) (λ k l. h k (omega arith) ∙ sym (lines_at 5 n k (omega arith)))
