-- Cells written one after the other, as a list that is pasted over another.
use Rattle.std.specs.Prelude.{ℕ, suc, ◌+◌, ◌≤◌, ◌<◌, ◌≡◌, List, [], ◌∷◌, ◌++◌, length, set, take, drop}
use Rattle.std.proofs.Common.{arith, sym, ap, ap₂, ◌∙◌, append_assoc, length-set, take-suc-set, drop-set-lt}
use Rattle.std.proofs.Math.Seq.{paste, paste-zero}
use Rattle.model.specs.Search.{cells}

rests : (at n : ℕ) → suc at + n ≡ at + suc n
rests at n = omega arith

-- a cell, and what is pasted behind it
pub paste_cons : {A : Type 0} (d : List A) (at : ℕ) (y : A) (ys : List A) (n : ℕ) → at < length d → paste (set d at y) (suc at) ys n ≡ paste d at (y ∷ ys) (suc n)
paste_cons d at y ys n h =
    ap₂ (λ a b. (a ++ take n ys) ++ b) (take-suc-set d at y h) (drop-set-lt (suc at + n) d at y (omega arith) ∙ ap (λ k. drop k d) (rests at n))
    ∙ ap (λ a. a ++ drop (at + suc n) d) (append_assoc (take at d) (y ∷ []) (take n ys))

pub paste_one : {A : Type 0} (d : List A) (at : ℕ) (y : A) → at < length d → set d at y ≡ paste d at (y ∷ []) 1
paste_one d at y h = paste-zero (set d at y) (suc at) [] ∙ paste_cons d at y [] 0 h

-- the three cells before a solve's body, then the body
pub paste_solve : (d : List ℕ) (at answer conflicts : ℕ) (body : List ℕ) → at + 3 ≤ length d
    → paste (set (set (set d at answer) (at + 1) conflicts) (at + 2) (length body)) (at + 3) body (length body) ≡ paste d at (cells answer conflicts body) (3 + length body)
unfolding cells
paste_solve d at answer conflicts body h =
    let n = length body in
    let d1 = set d at answer in
    let d2 = set d1 (at + 1) conflicts in
    let l1 : length d1 ≡ length d = length-set d at answer in
    let l2 : length d2 ≡ length d = length-set d1 (at + 1) conflicts ∙ l1 in
    let e3 : at + 3 ≡ suc (at + 2) = omega arith in
    let e2 : at + 2 ≡ suc (at + 1) = omega arith in
    let e1 : at + 1 ≡ suc at = omega arith in
    let k : 3 + n ≡ suc (suc (suc n)) = omega arith in
    ap (λ j. paste (set d2 (at + 2) n) j body n) e3
    ∙ paste_cons d2 (at + 2) n body n (omega arith)
    ∙ ap (λ j. paste d2 j (n ∷ body) (suc n)) e2
    ∙ paste_cons d1 (at + 1) conflicts (n ∷ body) (suc n) (omega arith)
    ∙ ap (λ j. paste d1 j (conflicts ∷ n ∷ body) (suc (suc n))) e1
    ∙ paste_cons d at answer (conflicts ∷ n ∷ body) (suc (suc n)) (omega arith)
    ∙ ap (λ j. paste d at (answer ∷ conflicts ∷ n ∷ body) j) (sym k)
