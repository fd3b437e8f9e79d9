-- What the code answers of a line and writes of it, and the definitions of Format by their cases.
use Rattle.std.specs.Prelude.{ℕ, ◌+◌, ◌≤◌, ◌<◌, ◌≡◌, refl, Option, None, Some, MatchOption, Result, Ok, Err, List, [], ◌∷◌, ◌++◌, length, take, drop, set}
use Rattle.std.proofs.Common.{sym, ap, ◌∙◌, arith, add-one, append_assoc, append-nil, length-append, length-take-le, take_all}
use Rattle.std.proofs.Math.Seq.{take-suc-set}
use Rattle.refusal.specs.declared.Rule.{Rule}
use Rattle.refusal.specs.declared.Rule.TheVariants.{BadNumber}
use denote.Ref.{Bor}
use Rattle.text.specs.Bytes.{blank}
use Rattle.text.specs.Split.{before}
use Rattle.text.specs.SplitLaws.{Cut, words_of, words_cut, pieces_few}
use Rattle.text.specs.Number.{literal}
use Rattle.text.specs.Format.{Cells, wrong, cells, one_more, literals, fitting}

-- ---- the answer for a line

-- the rule that it breaks, or how many cells it has with n more
abbrev pub counted : ℕ → Cells → Result ℕ Rule
counted n (wrong rule) = Err rule
counted n (cells xs) = Ok (n + length xs)

abbrev pub listed : Cells → List ℕ
listed (wrong rule) = []
listed (cells xs) = xs

-- xs in place of the first cells
abbrev pub over : List ℕ → List ℕ → List ℕ
over xs s = xs ++ drop (length xs) s

-- the cells x stored first in the slice, if they fit, and the answer
pub record Puts (x : Cells) (before after : List ℕ) (r : Result ℕ Rule) : Type 0 where
  pub answer : r ≡ counted 0 (fitting (length before) 0 x)
  pub slice : after ≡ over (listed (fitting (length before) 0 x)) before

-- ---- literals

pub literals_bad : (v : ℕ) (w : List ℕ) (ws : List (List ℕ)) → literal v w ≡ None → literals v (w ∷ ws) ≡ wrong BadNumber
unfolding literals
literals_bad v w ws e = rw (e, literals)

pub literals_more : (v : ℕ) (w : List ℕ) (ws : List (List ℕ)) (l : ℕ) → literal v w ≡ Some l → literals v (w ∷ ws) ≡ one_more l (literals v ws)
unfolding literals
literals_more v w ws l e = rw (e, literals)

pub counted_more : (n l : ℕ) (x : Cells) → counted n (one_more l x) ≡ counted (n + 1) x
unfolding one_more
counted_more n l (wrong k) = refl
counted_more n l (cells xs) = ap Ok (omega arith)

-- the literals before the first word that is none
unfoldable pub good : ℕ → List (List ℕ) → List ℕ
good v [] = []
good v (w ∷ ws) = elim (literal v w) [ None ↦ [] | Some l ↦ l ∷ good v ws ]

pub good_bad : (v : ℕ) (w : List ℕ) (ws : List (List ℕ)) → literal v w ≡ None → good v (w ∷ ws) ≡ []
unfolding good
good_bad v w ws e = rw (e, good)

pub good_end : (v : ℕ) {ws : List (List ℕ)} → ws ≡ [] → good v ws ≡ []
unfolding good
good_end v e = rw (e, good)

pub good_more : (v : ℕ) (w : List ℕ) (ws : List (List ℕ)) (l : ℕ) → literal v w ≡ Some l → good v (w ∷ ws) ≡ l ∷ good v ws
unfolding good
good_more v w ws l e = rw (e, good)

-- if they are all good, they are the literals
one_more-cells : (l : ℕ) (x : Cells) (ls : List ℕ) → one_more l x ≡ cells ls → (ms : List ℕ) × (x ≡ cells ms) × (l ∷ ms ≡ ls)
unfolding one_more
one_more-cells l (wrong k) ls e = absurd (cc)
one_more-cells l (cells xs) ls e = (xs, refl, cc)

pub good_all : (v : ℕ) (ws : List (List ℕ)) (ls : List ℕ) → literals v ws ≡ cells ls → good v ws ≡ ls
unfolding literals good
good_all v [] ls e = cc
good_all v (w ∷ ws) ls e = go (literal v w) refl (λ ms q. good_all v ws ms q)
  where
    go : (n : Option ℕ) → literal v w ≡ n → ((ms : List ℕ) → literals v ws ≡ cells ms → good v ws ≡ ms) → good v (w ∷ ws) ≡ ls
    go None q ih = cc (literals_bad v w ws q)
    go (Some l) q ih =
        let m = one_more-cells l (literals v ws) ls (sym (literals_more v w ws l q) ∙ e) in
        good_more v w ws l q ∙ ap (λ (r : List ℕ). l ∷ r) (ih m.0 m.1) ∙ m.2

-- ---- the words that are left

-- more than how long what is left is
abbrev pub most_words : Option (Bor (List ℕ)) → ℕ
most_words None = 0
most_words (Some x) = length x.now + 1

pub words_end : {left : Option (Bor (List ℕ))} → left ≡ None → words_of left ≡ []
words_end e = rw e

pub words_few : (o : Option (Bor (List ℕ))) → length (words_of o) ≤ most_words o
words_few None = omega arith
words_few (Some x) = pieces_few blank ([] ∷ []) x.now

-- the first of the words that are left
module _ (o : Option (Bor (List ℕ))) {left : Option (Bor (List ℕ))} {line : Bor (List ℕ)} {first : List ℕ} (e : left ≡ Some line) (f : first ≡ before blank line.now) (c : Cut blank line.now first o) where
  pub one_less : words_of left ≡ first ∷ words_of o
  one_less = ap words_of e ∙ words_cut line.now first o f c

module _ (v : ℕ) (o : Option (Bor (List ℕ))) {left : Option (Bor (List ℕ))} {line : Bor (List ℕ)} {first : List ℕ} (e : left ≡ Some line) (f : first ≡ before blank line.now) (c : Cut blank line.now first o) where
  pub shorter : most_words o < most_words left
  shorter = rw e (go o c)
    where
      go : (p : Option (Bor (List ℕ))) → Cut blank line.now first p → most_words p < length line.now + 1
      go None d = omega arith
      go (Some x) d = omega (arith, ap length d, length-append first (blank ∷ x.now))

-- the first word, and the words behind it
module _ (v : ℕ) {ws more : List (List ℕ)} {w : List ℕ} (e : ws ≡ w ∷ more) where
  pub count_bad : (n : ℕ) → literal v w ≡ None → counted n (literals v ws) ≡ Err BadNumber
  count_bad n q = ap (λ (l : List (List ℕ)). counted n (literals v l)) e ∙ ap (counted n) (literals_bad v w more q)

  pub count_more : (n l : ℕ) → literal v w ≡ Some l → counted n (literals v ws) ≡ counted (n + 1) (literals v more)
  count_more n l q = ap (λ (k : List (List ℕ)). counted n (literals v k)) e ∙ ap (counted n) (literals_more v w more l q) ∙ counted_more n l (literals v more)

  pub put_bad : literal v w ≡ None → good v ws ≡ []
  put_bad q = ap (good v) e ∙ good_bad v w more q

  pub put_more : (l : ℕ) → literal v w ≡ Some l → good v ws ≡ l ∷ good v more
  put_more l q = ap (good v) e ∙ good_more v w more l q

-- the next word, and its literal
module _ (v : ℕ) (ws more : List (List ℕ)) (r : Option (Bor (List ℕ))) (q : Option ℕ) (s : MatchOption r ((ws ≡ []) × (more ≡ [])) (λ w. ws ≡ w.now ∷ more)) (e : MatchOption r (q ≡ None) (λ w. q ≡ literal v w.now)) where
  pub next_bad : q ≡ None → good v ws ≡ []
  next_bad n = go r s e
    where
      go : (o : Option (Bor (List ℕ))) → MatchOption o ((ws ≡ []) × (more ≡ [])) (λ w. ws ≡ w.now ∷ more) → MatchOption o (q ≡ None) (λ w. q ≡ literal v w.now) → good v ws ≡ []
      go None a b = good_end v a.0
      go (Some w) a b = put_bad v a (sym b ∙ n)

  pub next_good : (l : ℕ) → q ≡ Some l → good v ws ≡ l ∷ good v more
  next_good l n = go r s e
    where
      go : (o : Option (Bor (List ℕ))) → MatchOption o ((ws ≡ []) × (more ≡ [])) (λ w. ws ≡ w.now ∷ more) → MatchOption o (q ≡ None) (λ w. q ≡ literal v w.now) → good v ws ≡ l ∷ good v more
      go None a b = cc
      go (Some w) a b = put_more v a l (sym b ∙ n)

pub count_end : (v n : ℕ) {ws : List (List ℕ)} → ws ≡ [] → Ok n ≡ counted n (literals v ws)
unfolding literals
count_end v n e = rw (e, literals) (ap Ok (omega arith))

-- literals that are stored, one to each cell
pub stored_none : (s ls all : List ℕ) (i : ℕ) → take i s ++ ls ≡ all → ls ≡ [] → length all ≡ length s → i < length s → ⊥
stored_none s ls all i e f g h =
    let n : i + length ls ≡ length all = omega (arith, ap length e, length-append (take i s) ls, length-take-le i s (omega arith)) in
    omega (arith, ap length f)

pub stored_more : (s ls ms all : List ℕ) (i x : ℕ) → take i s ++ ls ≡ all → ls ≡ x ∷ ms → i < length s → take (i + 1) (set s i x) ++ ms ≡ all
stored_more s ls ms all i x e f h =
    ap (λ (k : ℕ). take k (set s i x) ++ ms) (add-one i) ∙ ap (λ (l : List ℕ). l ++ ms) (take-suc-set s i x h) ∙ append_assoc (take i s) (x ∷ []) ms
    ∙ ap (λ (l : List ℕ). take i s ++ l) (sym f) ∙ e

pub stored_all : (s ls all : List ℕ) (i : ℕ) → take i s ++ ls ≡ all → length all ≡ length s → length s ≤ i → s ≡ all
stored_all s ls all i e g h =
    let t : take i s ≡ s = take_all i s h in
    let n : length ls ≡ 0 = omega (arith, ap length e, length-append (take i s) ls, ap length t) in
    sym t ∙ sym (append-nil (take i s)) ∙ ap (λ (l : List ℕ). take i s ++ l) (sym (none ls n)) ∙ e
  where
    none : (l : List ℕ) → length l ≡ 0 → l ≡ []
    none [] q = refl
    none (x ∷ xs) q = absurd (omega arith)

-- ---- answers taken apart

pub counted_wrong : (n : ℕ) (x : Cells) (k : Rule) → counted n x ≡ Err k → x ≡ wrong k
counted_wrong n (wrong j) k e = cc
counted_wrong n (cells xs) k e = cc

pub counted_good : (n : ℕ) (x : Cells) (m : ℕ) → counted n x ≡ Ok m → (x ≡ cells (listed x)) × (m ≡ n + length (listed x))
counted_good n (wrong j) m e = absurd (cc)
counted_good n (cells xs) m e = (refl, cc)
