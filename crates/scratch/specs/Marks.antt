-- What is true of marks that `new`, `set` and `unset` made.
use Rattle.std.specs.Prelude.{ℕ, ◌<◌, ◌≡◌, false, List, eqb, length, get_or, set, replicate}
use Rattle.std.specs.List.{All}
use Rattle.std.proofs.Common.{arith}
use Rattle.std.proofs.Math.Decide.{dec_lt}
use Rattle.std.proofs.lemmas.Bool.{eqb-false}
use Rattle.std.proofs.lemmas.List.{get_or_past, get_or_default}
use Rattle.std.proofs.lemmas.List.Elements.{All-get_or, All-replicate, All-set}

-- each cell is 0 or 1
abbrev pub SoundMarks : List ℕ → Type 0
SoundMarks m = All (λ x. x < 2) m

pub sound_none : (n : ℕ) → SoundMarks (replicate n 0)
sound_none n = All-replicate (λ x. x < 2) n 0 (omega arith)

-- any marks of which each, read with 0 past the end, is 0 or 1
pub sound_cells : (m : List ℕ) → ((v : ℕ) → get_or m v 0 < 2) → SoundMarks m
sound_cells m k v d h = rw (get_or_default m v d 0 h) (k v)

pub sound_set : (m : List ℕ) (v x : ℕ) → x < 2 → SoundMarks m → SoundMarks (set m v x)
sound_set m v x low s = All-set (λ y. y < 2) m v x low s

module _ (m : List ℕ) (s : SoundMarks m) (v : ℕ) where
  -- past the marks too, where `get_or` reads 0
  pub mark_below : get_or m v 0 < 2
  mark_below = go (dec_lt v (length m))
    where
      go : Dec (v < length m) → get_or m v 0 < 2
      go (yes h) = All-get_or (λ x. x < 2) m v 0 h s
      go (no h) = omega (arith, get_or_past m v 0 (omega arith))

  -- the mark of a variable that is not set is 0
  pub unset_is_0 : eqb (get_or m v 0) 1 ≡ false → get_or m v 0 ≡ 0
  unset_is_0 e = omega (arith, mark_below, eqb-false (get_or m v 0) 1 e)
