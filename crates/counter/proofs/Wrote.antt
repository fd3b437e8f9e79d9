-- Clauses written one records, one after the other: what a slice holds afterwards, and what is left to write.
use Rattle.std.specs.Prelude.{ℕ, suc, ◌+◌, ◌≤◌, ◌≡◌, refl}
use Rattle.std.proofs.Common.{arith, add-suc, suc-add, add-zero, sym, ap, ◌∙◌, take_all}
use mathlib.Core.List.{List, [], ◌∷◌, ◌++◌, append_assoc}
use lib.ListN.{length, set, take, drop, length-append}
use Rattle.std.proofs.lemmas.List.Edits.{sets, sets-eq}
use Rattle.std.proofs.Math.Seq.{length-sets, paste}
use Rattle.model.specs.Script.{clause_kind}
use Rattle.counter.specs.Counter.{cells}
use Rattle.counter.specs.Wrote.{Wrote, Fits, Left}

-- ---- laws

pub cells-append : (one two : List (List ℕ)) → cells (one ++ two) ≡ cells one ++ cells two
unfolding cells
cells-append [] two = refl
cells-append (c ∷ one) two = ap (λ (xs : List ℕ). clause_kind ∷ length c ∷ xs) (ap (λ (xs : List ℕ). c ++ xs) (cells-append one two) ∙ sym (append_assoc c (cells one) (cells two)))

pub length-cells : (one two : List (List ℕ)) → length (cells (one ++ two)) ≡ length (cells one) + length (cells two)
length-cells one two = ap length (cells-append one two) ∙ length-append (cells one) (cells two)

pub sets-append : (xs ys out : List ℕ) (at : ℕ) → sets out at (xs ++ ys) ≡ sets (sets out at xs) (at + length xs) ys
sets-append [] ys out at = ap (λ (n : ℕ). sets out n ys) (sym (add-zero at))
sets-append (x ∷ xs) ys out at =
    sets-append xs ys (set out at x) (suc at) ∙ ap (λ (n : ℕ). sets (sets (set out at x) (suc at) xs) n ys) (suc-add at (length xs) ∙ sym (add-suc at (length xs)))

pub wrote_none : (out : List ℕ) (at : ℕ) → Wrote out at [] out at
unfolding cells
wrote_none out at = record { stored = refl; behind = sym (add-zero at) }

pub wrote_append : {out : List ℕ} {at : ℕ} {one two : List (List ℕ)} {out' out'' : List ℕ} {mid end : ℕ}
    → Wrote out at one out' mid → Wrote out' mid two out'' end → Wrote out at (one ++ two) out'' end
wrote_append {out} {at} {one} {two} {out'} {out''} {mid} {end} a b =
    record {
      stored = b.stored ∙ ap (λ (w : List ℕ). sets w mid (cells two)) a.stored ∙ ap (λ (n : ℕ). sets (sets out at (cells one)) n (cells two)) a.behind
          ∙ sym (sets-append (cells one) (cells two) out at) ∙ ap (sets out at) (sym (cells-append one two));
      behind = omega (arith, a.behind, b.behind, length-cells one two);
    }

pub wrote_length : {out : List ℕ} {at : ℕ} {cs : List (List ℕ)} {out' : List ℕ} {end : ℕ} → Wrote out at cs out' end → length out' ≡ length out
wrote_length {out} {at} {cs} w = ap length w.stored ∙ length-sets out at (cells cs)

pub left_all : (out : List ℕ) (at : ℕ) (cs : List (List ℕ)) → Fits at cs (length out) → Left out at cs out at cs
left_all out at cs h = record { fits = h; same_length = refl; rest = λ out' end w. w }

pub left_step : {out₀ : List ℕ} {at₀ : ℕ} {whole : List (List ℕ)} {out : List ℕ} {at : ℕ} {one two : List (List ℕ)} {out' : List ℕ} {mid : ℕ}
    → Left out₀ at₀ whole out at (one ++ two) → Wrote out at one out' mid → Left out₀ at₀ whole out' mid two
left_step {out₀} {at₀} {whole} {out} {at} {one} {two} {out'} {mid} l w =
    record {
      fits = omega (arith, l.fits, length-cells one two, w.behind, wrote_length w);
      same_length = wrote_length w ∙ l.same_length;
      rest = λ out'' end v. l.rest out'' end (wrote_append w v);
    }

pub left_none : {out₀ : List ℕ} {at₀ : ℕ} {whole : List (List ℕ)} {out : List ℕ} {at : ℕ} → Left out₀ at₀ whole out at [] → Wrote out₀ at₀ whole out at
left_none {out₀} {at₀} {whole} {out} {at} l = l.rest out at (wrote_none out at)

-- the first part of what is left fits
pub fits_first : (at n : ℕ) (one two : List (List ℕ)) → Fits at (one ++ two) n → Fits at one n
fits_first at n one two h = omega (arith, h, length-cells one two)

-- ---- one record

pub cells_one : (c : List ℕ) → cells (c ∷ []) ≡ clause_kind ∷ length c ∷ c
unfolding cells
cells_one c = ap (λ (xs : List ℕ). clause_kind ∷ length c ∷ xs) (mathlib.Core.List.append-nil c)

-- the code's stores: the kind, the count, and the literals pasted behind them
pub one_record : (out : List ℕ) (at : ℕ) (c : List ℕ) → at + 2 + length c ≤ length out
    → Wrote out at (c ∷ []) (paste (set (set out at clause_kind) (at + 1) (length c)) (at + 2) c (length c)) (at + (2 + length c))
one_record out at c h =
    let headed : List ℕ = set (set out at clause_kind) (at + 1) (length c) in
    let n : length headed ≡ length out = simp lib.ListN.length-set in
    let e1 : at + 1 ≡ suc at = omega arith in
    let e2 : at + 2 ≡ suc (suc at) = omega arith in
    record {
      stored = ap (λ (xs : List ℕ). take (at + 2) headed ++ xs ++ drop (at + 2 + length c) headed) (take_all (length c) c (omega arith))
          ∙ sym (sets-eq c headed (at + 2) (omega (arith, n)))
          ∙ ap (λ (i : ℕ). sets headed i c) e2
          ∙ ap (λ (i : ℕ). sets (set (set out at clause_kind) i (length c)) (suc (suc at)) c) e1
          ∙ ap (sets out at) (sym (cells_one c));
      behind = omega (arith, ap length (cells_one c));
    }

-- what a slice holds once all is written from its start on
pub wrote_front : {out : List ℕ} {cs : List (List ℕ)} {out' : List ℕ} {end : ℕ} → Wrote out 0 cs out' end → length (cells cs) ≤ length out
    → (end ≡ length (cells cs)) × (out' ≡ cells cs ++ drop (length (cells cs)) out)
wrote_front {out} {cs} {out'} {end} w h =
    let e : 0 + length (cells cs) ≡ length (cells cs) = omega arith in
    (omega (arith, w.behind), w.stored ∙ sets-eq (cells cs) out 0 (omega (arith, h)) ∙ ap (λ (n : ℕ). cells cs ++ drop n out) e)
