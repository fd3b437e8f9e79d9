-- The definitions of Split by the first piece and what stands behind it, as the code cuts a text.
use Rattle.std.specs.List.{position_or_len}
use Rattle.std.specs.Option.{unwrap_or}
use Rattle.std.specs.Cmp.Lexicographic.{pointwise}
use Rattle.std.specs.Prelude.{ℕ, suc, ◌+◌, ◌≤◌, ◌<◌, ◌≡◌, refl, Bool, true, false, cond, nat_eq, Option, None, Some, MatchOption, List, [], ◌∷◌, ◌++◌, length, take, drop, eqb, ltb}
use Rattle.std.proofs.Common.{sym, ap, ◌∙◌, arith, take_all, ltb-false, length-append, eq-eqb, ne_eqb, lt-ltb, le-ltb}
use Rattle.std.proofs.Math.Decide.{ℕ_discrete}
use Rattle.std.proofs.Math.Dec.{leb-suc-suc, leb-zero}
use Rattle.std.proofs.Math.Seq.{drop_at}
use denote.Ref.{Bor}
use Rattle.text.specs.Bytes.{newline, blank}
use Rattle.text.specs.Split.{push, pieces, lines, words, before, starts}

-- ---- pieces

-- the pieces behind the first n bytes and the one that cuts
rest_at : ℕ → List (List ℕ) → ℕ → List ℕ → List (List ℕ)
rest_at s last n l = elim (ltb n (length l)) [ true ↦ pieces s last (drop (suc n) l) | false ↦ [] ]

abbrev rest : ℕ → List (List ℕ) → List ℕ → List (List ℕ)
rest s last l = rest_at s last (length (before s l)) l

before_cut : (s b : ℕ) (bs : List ℕ) → b ≡ s → before s (b ∷ bs) ≡ []
unfolding before
before_cut s b bs h = rw (eq-eqb b s h, before)

before_on : (s b : ℕ) (bs : List ℕ) → (b ≡ s → ⊥) → before s (b ∷ bs) ≡ b ∷ before s bs
unfolding before
before_on s b bs h = rw (ne_eqb b s h, before)

rest_cons : (s : ℕ) (last : List (List ℕ)) (b : ℕ) (bs : List ℕ) → (b ≡ s → ⊥) → rest s last (b ∷ bs) ≡ rest s last bs
unfolding rest_at
rest_cons s last b bs h = rw (before_on s b bs h) (rw (rest_at, leb-suc-suc))

-- where a byte that ends a text is a piece by itself
Alone : List (List ℕ) → Type 0
Alone last = (b : ℕ) → push b last ≡ (b ∷ []) ∷ []

rest_cut : (s : ℕ) (last : List (List ℕ)) (b : ℕ) (bs : List ℕ) → rest_at s last 0 (b ∷ bs) ≡ pieces s last bs
unfolding rest_at
rest_cut s last b bs = rw (rest_at, leb-suc-suc, leb-zero)

pieces-cut : (s : ℕ) (last : List (List ℕ)) (b : ℕ) (bs : List ℕ) → b ≡ s → pieces s last (b ∷ bs) ≡ [] ∷ pieces s last bs
unfolding pieces
pieces-cut s last b bs e = rw (eq-eqb b s e, pieces)

step_cut : (s : ℕ) (last : List (List ℕ)) (b : ℕ) (bs : List ℕ) → b ≡ s → pieces s last (b ∷ bs) ≡ before s (b ∷ bs) ∷ rest s last (b ∷ bs)
step_cut s last b bs e = rw (before_cut s b bs e, pieces-cut s last b bs e, rest_cut s last b bs)

step_last : (s : ℕ) (last : List (List ℕ)) → Alone last → (b : ℕ) → (b ≡ s → ⊥) → pieces s last (b ∷ []) ≡ before s (b ∷ []) ∷ rest s last (b ∷ [])
unfolding pieces before rest_at Alone
step_last s last h b e = rw (before_on s b [] e, ne_eqb b s e, pieces) (h b)

step_on : (s : ℕ) (last : List (List ℕ)) (b : ℕ) (bs : List ℕ) → (b ≡ s → ⊥) → pieces s last bs ≡ before s bs ∷ rest s last bs
    → pieces s last (b ∷ bs) ≡ before s (b ∷ bs) ∷ rest s last (b ∷ bs)
unfolding pieces push
step_on s last b bs e ih = rw (rest_cons s last b bs e, before_on s b bs e, ne_eqb b s e, pieces, ih)

step : (s : ℕ) (last : List (List ℕ)) → Alone last → (b : ℕ) (bs : List ℕ) → pieces s last (b ∷ bs) ≡ before s (b ∷ bs) ∷ rest s last (b ∷ bs)
step s last h b [] = go (ℕ_discrete b s)
  where
    go : Dec (b ≡ s) → pieces s last (b ∷ []) ≡ before s (b ∷ []) ∷ rest s last (b ∷ [])
    go (yes e) = step_cut s last b [] e
    go (no e) = step_last s last h b e
step s last h b (x ∷ xs) = go (step s last h x xs) (ℕ_discrete b s)
  where
    go : pieces s last (x ∷ xs) ≡ before s (x ∷ xs) ∷ rest s last (x ∷ xs) → Dec (b ≡ s)
        → pieces s last (b ∷ x ∷ xs) ≡ before s (b ∷ x ∷ xs) ∷ rest s last (b ∷ x ∷ xs)
    go ih (yes e) = step_cut s last b (x ∷ xs) e
    go ih (no e) = step_on s last b (x ∷ xs) e ih

-- ---- a text that is cut at its first s

-- what stands behind the first s, if it is found
abbrev pub Cut : ℕ → List ℕ → List ℕ → Option (Bor (List ℕ)) → Type 0
Cut s l first o = MatchOption o (first ≡ l) (λ x. l ≡ first ++ s ∷ x.now)

abbrev pieces_of : ℕ → List (List ℕ) → Option (Bor (List ℕ)) → List (List ℕ)
pieces_of s last None = []
pieces_of s last (Some x) = pieces s last x.now

cons_append : (xs : List ℕ) (y : ℕ) (ys : List ℕ) → xs ++ y ∷ ys ≡ (xs ++ y ∷ []) ++ ys
cons_append [] y ys = refl
cons_append (x ∷ xs) y ys = ap (λ (l : List ℕ). x ∷ l) (cons_append xs y ys)

rest_of : (s : ℕ) (last : List (List ℕ)) (l first : List ℕ) (o : Option (Bor (List ℕ))) → first ≡ before s l → Cut s l first o → rest s last l ≡ pieces_of s last o
unfolding rest_at
rest_of s last l first None e c = let h : length l ≤ length (before s l) = omega (arith, ap length e, ap length c) in rw (rest_at, le-ltb (length (before s l)) (length l) h)
rest_of s last l first (Some x) e c =
    let n : length l ≡ length first + suc (length x.now) = ap length c ∙ length-append first (s ∷ x.now) in
    let h : length (before s l) < length l = omega (arith, ap length e) in
    let d : drop (suc (length (before s l))) l ≡ x.now =
    ap (λ (k : List ℕ). drop (suc (length k)) l) (sym e) ∙ ap (drop (suc (length first))) (c ∙ cons_append first s x.now) ∙ drop_at (first ++ s ∷ []) x.now (suc (length first)) (length-append first (s ∷ []) ∙ omega arith) in
    rw (rest_at, lt-ltb (length (before s l)) (length l) h, d)

-- the words of what is left of a line, if anything is
abbrev pub words_of : Option (Bor (List ℕ)) → List (List ℕ)
words_of None = []
words_of (Some x) = words x.now

words_step : (l : List ℕ) → words l ≡ before blank l ∷ rest blank ([] ∷ []) l
unfolding pieces before rest_at push Alone
words_step [] = refl
words_step (b ∷ bs) = step blank ([] ∷ []) (λ x. refl) b bs

pub words_cut : (l first : List ℕ) (o : Option (Bor (List ℕ))) → first ≡ before blank l → Cut blank l first o → words l ≡ first ∷ words_of o
words_cut l first o e c = words_step l ∙ go o (rest_of blank ([] ∷ []) l first o e c)
  where
    go : (p : Option (Bor (List ℕ))) → rest blank ([] ∷ []) l ≡ pieces_of blank ([] ∷ []) p → before blank l ∷ rest blank ([] ∷ []) l ≡ first ∷ words_of p
    go None q = rw (q, e)
    go (Some x) q = rw (q, e)

-- a cut takes a byte, so the pieces are no more than the bytes and the pieces at the end
push_few : (b : ℕ) (ps : List (List ℕ)) → length (push b ps) ≤ suc (length ps)
unfolding push
push_few b [] = omega arith
push_few b (p ∷ ps) = omega arith

pub pieces_few : (s : ℕ) (last : List (List ℕ)) (l : List ℕ) → length (pieces s last l) ≤ length l + length last
unfolding pieces
pieces_few s last [] = omega arith
pieces_few s last (b ∷ bs) = go (eqb b s) refl (pieces_few s last bs)
  where
    go : (t : Bool) → eqb b s ≡ t → length (pieces s last bs) ≤ length bs + length last → length (pieces s last (b ∷ bs)) ≤ length (b ∷ bs) + length last
    go true e h = rw (e, pieces) (omega (arith, h))
    go false e h = rw (e, pieces) (omega (arith, h, push_few b (pieces s last bs)))

-- the lines of what is left of a text
abbrev pub text_of : Option (Bor (List ℕ)) → List ℕ
text_of None = []
text_of (Some x) = x.now

lines_step : (l : List ℕ) → 0 < length l → lines l ≡ before newline l ∷ rest newline [] l
unfolding push Alone
lines_step [] h = absurd (omega arith)
lines_step (b ∷ bs) h = step newline [] (λ x. refl) b bs

pub lines_cut : (l first : List ℕ) (o : Option (Bor (List ℕ))) → 0 < length l → first ≡ before newline l → Cut newline l first o → lines l ≡ first ∷ lines (text_of o)
unfolding pieces
lines_cut l first o h e c = lines_step l h ∙ go o (rest_of newline [] l first o e c)
  where
    go : (p : Option (Bor (List ℕ))) → rest newline [] l ≡ pieces_of newline [] p → before newline l ∷ rest newline [] l ≡ first ∷ lines (text_of p)
    go None q = rw (q, e, pieces)
    go (Some x) q = rw (q, e)

-- ---- the place of the first s

one_taken : (n b : ℕ) (bs : List ℕ) → take (1 + n) (b ∷ bs) ≡ b ∷ take n bs
one_taken n b bs = let e : 1 + n ≡ suc n = omega arith in ap (λ (k : ℕ). take k (b ∷ bs)) e

pub before_prefix : (s : ℕ) (l : List ℕ) → take (position_or_len (λ b. eqb b s) l) l ≡ before s l
unfolding before
before_prefix s [] = refl
before_prefix s (b ∷ bs) = go (eqb b s) refl (before_prefix s bs)
  where
    go : (t : Bool) → eqb b s ≡ t → take (position_or_len (λ c. eqb c s) bs) bs ≡ before s bs → take (position_or_len (λ c. eqb c s) (b ∷ bs)) (b ∷ bs) ≡ before s (b ∷ bs)
    go true e ih = rw (e, before)
    go false e ih = rw (e, before) (one_taken (position_or_len (λ c. eqb c s) bs) b bs ∙ ap (λ (k : List ℕ). b ∷ k) ih)

pub before_at : (s : ℕ) (l : List ℕ) (i : ℕ) → Some i ≡ cond (ltb (position_or_len (λ b. eqb b s) l) (length l)) (Some (position_or_len (λ b. eqb b s) l)) None → take i l ≡ before s l
before_at s l i e = go (ltb (position_or_len (λ b. eqb b s) l) (length l)) e
  where
    go : (t : Bool) → Some i ≡ cond t (Some (position_or_len (λ b. eqb b s) l)) None → take i l ≡ before s l
    go true q = let z : i ≡ position_or_len (λ b. eqb b s) l = cc in rw z (before_prefix s l)
    go false q = cc

pub before_none : (s : ℕ) (l : List ℕ) → None ≡ cond (ltb (position_or_len (λ b. eqb b s) l) (length l)) (Some (position_or_len (λ b. eqb b s) l)) None → l ≡ before s l
before_none s l e = go (ltb (position_or_len (λ b. eqb b s) l) (length l)) refl e
  where
    go : (t : Bool) → ltb (position_or_len (λ b. eqb b s) l) (length l) ≡ t → None ≡ cond t (Some (position_or_len (λ b. eqb b s) l)) None → l ≡ before s l
    go true p q = cc
    go false p q = sym (take_all (position_or_len (λ b. eqb b s) l) l (ltb-false (position_or_len (λ b. eqb b s) l) (length l) p)) ∙ before_prefix s l

-- ---- a line behind its key

-- what is left of a line without its key, if it starts with it
abbrev pub Stripped : List ℕ → List ℕ → Option (Bor (List ℕ)) → Type 0
Stripped key line o = MatchOption o (pointwise nat_eq (take (length key) line) key ≡ false)
    (λ x. (pointwise nat_eq (take (length key) line) key ≡ true) × (x.now ≡ drop (length key) line) × (length x.now + length key ≡ length line))

starts_as : (key line : List ℕ) → pointwise nat_eq (take (length key) line) key ≡ starts key line
unfolding starts
starts_as [] line = refl
starts_as (k ∷ ks) [] = refl
starts_as (k ∷ ks) (b ∷ bs) = go (ℕ_discrete k b) (starts_as ks bs)
  where
    go : Dec (k ≡ b) → pointwise nat_eq (take (length ks) bs) ks ≡ starts ks bs → pointwise nat_eq (take (length (k ∷ ks)) (b ∷ bs)) (k ∷ ks) ≡ starts (k ∷ ks) (b ∷ bs)
    go (yes e) ih = rw (eq-eqb k b e, eq-eqb b k (sym e), starts) ih
    go (no e) ih = rw (ne_eqb k b e, ne_eqb b k (λ f. e (sym f)), starts)

pub stripped_none : (key line : List ℕ) (o : Option (Bor (List ℕ))) → Stripped key line o → o ≡ None → starts key line ≡ false
stripped_none key line None s e = sym (starts_as key line) ∙ s
stripped_none key line (Some x) s e = cc

pub stripped_some : (key line : List ℕ) (o : Option (Bor (List ℕ))) (x : Bor (List ℕ)) → Stripped key line o → o ≡ Some x → (starts key line ≡ true) × (x.now ≡ drop (length key) line)
stripped_some key line None x s e = absurd (cc)
stripped_some key line (Some y) x s e = let z : y ≡ x = cc in (sym (starts_as key line) ∙ s.0, ap (λ (b : Bor (List ℕ)). b.now) (sym z) ∙ s.1)

-- ---- what is left of a text

pub text_left : (o : Option (Bor (List ℕ))) (d : Bor (List ℕ)) → d.now ≡ [] → (unwrap_or o d).now ≡ text_of o
text_left None d e = e
text_left (Some x) d e = refl

pub text_shorter : (l first : List ℕ) (o : Option (Bor (List ℕ))) → 0 < length l → Cut newline l first o → length (text_of o) < length l
text_shorter l first None h c = h
text_shorter l first (Some x) h c = omega (arith, ap length c, length-append first (newline ∷ x.now))

pub no_lines : (l : List ℕ) → length l ≡ 0 → lines l ≡ []
unfolding pieces
no_lines [] e = refl
no_lines (b ∷ bs) e = absurd (omega arith)

-- std's word for the same
pub starts_with_as : (key line : List ℕ) → pointwise nat_eq key (take (length key) line) ≡ starts key line
unfolding starts
starts_with_as [] line = refl
starts_with_as (k ∷ ks) [] = refl
starts_with_as (k ∷ ks) (b ∷ bs) = go (ℕ_discrete k b) (starts_with_as ks bs)
  where
    go : Dec (k ≡ b) → pointwise nat_eq ks (take (length ks) bs) ≡ starts ks bs → pointwise nat_eq (k ∷ ks) (take (length (k ∷ ks)) (b ∷ bs)) ≡ starts (k ∷ ks) (b ∷ bs)
    go (yes e) ih = rw (eq-eqb k b e, starts) ih
    go (no e) ih = rw (ne_eqb k b e, starts)
