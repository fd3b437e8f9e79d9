-- The stored clauses may change, as long as the reasons keep their first literal and gain no other.
use Rattle.std.specs.Prelude.{◌≡◌, List, [], ℕ, ◌<◌, length, get_or, drop}
use Rattle.lawbase.specs.Basics.{◌∈◌, Every}

-- clause r of cs as a reason, in cs': stored, with the same first literal, and no literal behind it that was not there
pub record Serves (cs cs' : List (List ℕ)) (r : ℕ) : Type 0 where
  pub stored : r < length cs'
  pub first : get_or (get_or cs' r []) 0 0 ≡ get_or (get_or cs r []) 0 0
  pub rest : Every (λ l. l ∈ drop 1 (get_or cs r [])) (drop 1 (get_or cs' r []))
