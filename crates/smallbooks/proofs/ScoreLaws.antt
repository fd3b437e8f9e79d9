-- The greatest conflicts and the first set with that many, kept as the sets come.
use Rattle.std.specs.Prelude.{◌≡◌, refl, ◌≢◌, List, [], ◌∷◌, ◌++◌, ℕ, ◌+◌, ◌≤◌, ◌<◌, max, length}
use Rattle.std.proofs.Common.{ap, sym, ◌∙◌, arith, eq-eqb, ne_eqb, lt-ltb, le-ltb}
use Rattle.lawbase.specs.Basics.{split, less?}
use Rattle.smallbooks.specs.declared.Score.{Score}
use Rattle.smallbooks.specs.Books.{greatest, first}
use Rattle.smallbooks.specs.Score.{one_more, scores, none_yet}

pub more_greater : (s : Score) (x : ℕ) → s.most < x → record { count = s.count + 1; most = x; first = s.count + 1 } ≡ one_more s x
unfolding one_more
more_greater s x h = rw (lt-ltb s.most x h, one_more)

pub more_other : (s : Score) (x : ℕ) → x ≤ s.most → record { count = s.count + 1; most = s.most; first = s.first } ≡ one_more s x
unfolding one_more
more_other s x h = rw (le-ltb s.most x h, one_more)

pub scores-append : (s : Score) (xs ys : List ℕ) → scores s (xs ++ ys) ≡ scores (scores s xs) ys
unfolding scores
scores-append s [] ys = refl
scores-append s (x ∷ xs) ys = scores-append (one_more s x) xs ys

more_count : (s : Score) (x : ℕ) → (one_more s x).count ≡ s.count + 1
more_count s x = split (less? s.most x) (λ h. ap (λ (t : Score). t.count) (sym (more_greater s x h))) (λ h. ap (λ (t : Score). t.count) (sym (more_other s x h)))

pub scores-count : (s : Score) (xs : List ℕ) → (scores s xs).count ≡ s.count + length xs
unfolding scores
scores-count s [] = omega arith
scores-count s (x ∷ xs) = omega (arith, scores-count (one_more s x) xs, more_count s x)

first_here : (m n : ℕ) (xs : List ℕ) → first m n (m ∷ xs) ≡ n
unfolding first
first_here m n xs = rw (eq-eqb m m refl, first)

first_later : (m n x : ℕ) (xs : List ℕ) → x ≢ m → first m n (x ∷ xs) ≡ first m (n + 1) xs
unfolding first
first_later m n x xs h = rw (ne_eqb x m h, first)

-- what is kept of a list of conflicts
record Kept (s : Score) (xs : List ℕ) : Type 0 where
  most : (scores s xs).most ≡ max s.most (greatest xs)
  above : s.most < greatest xs → (scores s xs).first ≡ first (greatest xs) (s.count + 1) xs
  other : greatest xs ≤ s.most → (scores s xs).first ≡ s.first

kept : (s : Score) (xs : List ℕ) → Kept s xs
unfolding scores greatest
kept s [] = record { most = omega arith; above = λ h. absurd (omega arith); other = λ h. refl }
kept s (x ∷ xs) = split (less? s.most x) (λ h. greater (kept (one_more s x) xs) h) (λ h. lesser (kept (one_more s x) xs) h)
  where
    greater : Kept (one_more s x) xs → s.most < x → Kept s (x ∷ xs)
    greater k h =
        let e = sym (more_greater s x h) in
        let m : (one_more s x).most ≡ x = ap (λ (t : Score). t.most) e in
        let c : (one_more s x).count ≡ s.count + 1 = ap (λ (t : Score). t.count) e in
        let f : (one_more s x).first ≡ s.count + 1 = ap (λ (t : Score). t.first) e in
        record {
          most = omega (arith, k.most, m);
          above = λ a. split (less? x (greatest xs))
              (λ l.
              let q : max x (greatest xs) ≡ greatest xs = omega arith in
              k.above (omega (arith, m)) ∙ ap (λ (n : ℕ). first (greatest xs) (n + 1) xs) c
              ∙ sym (first_later (greatest xs) (s.count + 1) x xs (λ z. omega (arith, z)))
              ∙ sym (ap (λ (n : ℕ). first n (s.count + 1) (x ∷ xs)) q))
              (λ l.
              let q : max x (greatest xs) ≡ x = omega arith in
              k.other (omega (arith, m)) ∙ f ∙ sym (first_here x (s.count + 1) xs) ∙ sym (ap (λ (n : ℕ). first n (s.count + 1) (x ∷ xs)) q));
          other = λ a. absurd (omega (arith, a, h));
        }

    lesser : Kept (one_more s x) xs → x ≤ s.most → Kept s (x ∷ xs)
    lesser k h =
        let e = sym (more_other s x h) in
        let m : (one_more s x).most ≡ s.most = ap (λ (t : Score). t.most) e in
        let c : (one_more s x).count ≡ s.count + 1 = ap (λ (t : Score). t.count) e in
        let f : (one_more s x).first ≡ s.first = ap (λ (t : Score). t.first) e in
        record {
          most = omega (arith, k.most, m);
          above = λ a.
              let q : max x (greatest xs) ≡ greatest xs = omega arith in
              k.above (omega (arith, m)) ∙ ap (λ (n : ℕ). first (greatest xs) (n + 1) xs) c
              ∙ sym (first_later (greatest xs) (s.count + 1) x xs (λ z. omega (arith, z)))
              ∙ sym (ap (λ (n : ℕ). first n (s.count + 1) (x ∷ xs)) q);
          other = λ a. k.other (omega (arith, m)) ∙ f;
        }

first_zero : (xs : List ℕ) → greatest xs ≤ 0 → first 0 1 xs ≡ 1
unfolding greatest first
first_zero [] h = refl
first_zero (x ∷ xs) h = let z : x ≡ 0 = omega arith in ap (λ (n : ℕ). first 0 1 (n ∷ xs)) z ∙ first_here 0 1 xs

-- from none on, they are the greatest, and the number of the first that is it
pub scores_most : (xs : List ℕ) → (scores none_yet xs).most ≡ greatest xs
unfolding none_yet
scores_most xs = omega (arith, (kept none_yet xs).most)

pub scores_first : (xs : List ℕ) → (scores none_yet xs).first ≡ first (greatest xs) 1 xs
unfolding none_yet
scores_first xs = split (less? 0 (greatest xs))
    (λ h. (kept none_yet xs).above h)
    (λ h. let z : greatest xs ≡ 0 = omega arith in (kept none_yet xs).other h ∙ sym (first_zero xs h) ∙ sym (ap (λ (n : ℕ). first n 1 xs) z))
