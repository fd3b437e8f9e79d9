-- What an assignment says of its trail: the place of a literal, the value of every literal, levels along the trail, and how long the trail can be.
use Rattle.std.specs.Prelude.{◌≡◌, ◌≢◌, List, reverse, ℕ, ◌<◌, length, get_or, take}
use Rattle.model.specs.Lit.{var, neg, l_true, l_false, l_undef, value_lit}
use Rattle.model.specs.State.{VarState}
use Rattle.lawbase.specs.Basics.{◌∈◌, Every}
use Rattle.lawbase.specs.WellFormed.{Entry}

-- ---- entries

-- a literal's place on the trail
pub record Place (n : ℕ) (cs : List (List ℕ)) (vs : VarState) (p : ℕ) : Type 0 where
  pub at : ℕ
  pub inside : at < length vs.trail
  pub literal : get_or vs.trail at 0 ≡ p
  pub entry : Entry n cs vs p (reverse (take at vs.trail))
  pub older : length (reverse (take at vs.trail)) ≡ at

-- ---- values

-- a variable is unset
abbrev pub Unset : VarState → ℕ → Type 0
Unset vs l = get_or vs.values (var l) 0 ≡ l_undef

-- what the value of literal l says of the trail
pub data Valued (vs : VarState) (l : ℕ) : Type 0 where
  is_set : l ∈ vs.trail → value_lit vs.values l ≡ l_true → Valued vs l
  is_negated : neg l ∈ vs.trail → value_lit vs.values l ≡ l_false → Valued vs l
  is_unset : Every (λ q. var q ≢ var l) vs.trail → Unset vs l → value_lit vs.values l ≡ l_undef → Valued vs l
