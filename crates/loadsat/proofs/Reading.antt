-- What some reads have put into a slice, one behind the other, of a reader whose bytes are known.
use Rattle.std.proofs.Common.{◌≡◌, ℕ, List, ◌+◌, ◌++◌, ◌≤◌, sym, ap, ◌∙◌, append-nil, length, take, drop, subst, length-append, length-take-le, arith, take_at, drop_at}
use Rattle.std.proofs.lemmas.List.{take-append-drop, take-append-le}
use Rattle.std.proofs.Math.ListN.{drop_of_length-le}
use Rattle.std.proofs.Math.Seq.{take-add}
use Rattle.std.proofs.KnownBytes.{Consumes-trans}
use Rattle.std.specs.Prelude.{Option}
use Rattle.std.specs.Io.KnownBytes.{Consumes}

-- all of a list that is no longer
pub no_more : (xs : List ℕ) (i : ℕ) → length xs ≤ i → take i xs ≡ xs
no_more xs i h = sym (append-nil (take i xs)) ∙ ap (λ (t : List ℕ). take i xs ++ t) (sym (drop_of_length-le xs h)) ∙ take-append-drop i xs

-- what was read before, and then more, which stands behind it
pub further : (a b c : Option (List ℕ)) (s buf rest : List ℕ) (n k : ℕ) → n ≤ length s → k ≤ length buf → Consumes a b (take n s) → Consumes b c (take k buf)
    → Consumes a c (take (n + k) (take n s ++ (buf ++ rest)))
further a b c s buf rest n k h l p q =
    let t : length (take n s) ≡ n = length-take-le n s h in
    let e : take (n + k) (take n s ++ (buf ++ rest)) ≡ take n s ++ take k buf =
    take-add n k (take n s ++ (buf ++ rest)) ∙ ap (λ (x : List ℕ). x ++ take k (drop n (take n s ++ (buf ++ rest)))) (take_at (take n s) (buf ++ rest) n t)
    ∙ ap (λ (x : List ℕ). take n s ++ take k x) (drop_at (take n s) (buf ++ rest) n t) ∙ ap (λ (x : List ℕ). take n s ++ x) (take-append-le k buf rest l) in
    subst (Consumes a c) (sym e) (Consumes-trans a b c _ _ p q)

pub within : (s buf rest : List ℕ) (n k : ℕ) → n ≤ length s → k ≤ length buf → n + k ≤ length (take n s ++ (buf ++ rest))
within s buf rest n k h l = omega (arith, length-append (take n s) (buf ++ rest), length-append buf rest, length-take-le n s h)
