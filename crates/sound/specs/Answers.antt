-- What the answers say, from what the state says of the clauses taken: the model, the final clause, no model at all.
use Rattle.std.specs.Prelude.{List, ◌++◌, ℕ, ◌<◌, length, T}
use Rattle.model.specs.Lit.{neg}
use Rattle.model.specs.Book.{all, has, Follows}
use Rattle.lawbase.specs.Sem.{Rup}

-- ---- FALSE

-- the final clause of a false assumption
pub record Finals (n : ℕ) (taken log : List (List ℕ)) (assumptions final : List ℕ) : Type 0 where
  pub rup : Rup (log ++ taken) final
  pub follows : Follows n taken final
  pub negated : T (all (λ l. has assumptions (neg l)) final)
  pub some : 0 < length final
