-- A literal by its first byte.
use Rattle.std.specs.Prelude.{ℕ, ◌≡◌, refl, true, false, List, [], ◌∷◌, drop}
use Rattle.std.proofs.Common.{sym, eq-eqb, ne_eqb}
use Rattle.std.proofs.Math.Decide.{ℕ_discrete}
use Rattle.text.specs.Split.{starts}
use Rattle.text.specs.Number.{decimal, signed, literal}

pub literal-minus : (v : ℕ) (l : List ℕ) → starts (45 ∷ []) l ≡ true → literal v l ≡ signed v 1 (decimal (drop 1 l))
unfolding literal starts
literal-minus v [] e = cc
literal-minus v (b ∷ bs) e = go (ℕ_discrete 45 b)
  where
    go : Dec (45 ≡ b) → literal v (b ∷ bs) ≡ signed v 1 (decimal bs)
    go (yes q) = rw (eq-eqb b 45 (sym q), literal)
    go (no q) = let z : false ≡ true = rw (ne_eqb 45 b q, starts) at e in cc

pub literal_plain : (v : ℕ) (l : List ℕ) → starts (45 ∷ []) l ≡ false → literal v l ≡ signed v 0 (decimal l)
unfolding literal starts signed decimal
literal_plain v [] e = refl
literal_plain v (b ∷ bs) e = go (ℕ_discrete 45 b)
  where
    go : Dec (45 ≡ b) → literal v (b ∷ bs) ≡ signed v 0 (decimal (b ∷ bs))
    go (yes q) = let z : true ≡ false = rw (eq-eqb 45 b q, starts) at e in cc
    go (no q) = rw (ne_eqb b 45 (λ f. q (sym f)), literal)
