-- `add_clause` answers 0 exactly when `ok` is false afterwards, and then the clauses taken have no model.
use Rattle.std.specs.Prelude.{◌≡◌, ◌↔◌, false, List, [], ◌∷◌, ◌++◌, ℕ, ◌*◌, ◌≤◌, ◌<◌}
use Rattle.model.specs.Lit.{undef_lit}
use Rattle.model.specs.Script.{Config}
use Rattle.model.specs.State.{State}
use Rattle.model.specs.Intake.{add_clause}
use Rattle.model.specs.Book.{fed}
use Rattle.lawbase.specs.Basics.{Every}
use Rattle.lawbase.specs.Sem.{Rup}
use Rattle.sound.specs.Sound.{Ready}
use Rattle.sound.proofs.Taking.{taken-zero, intake, add_ready}

-- ---- `add_clause`

module _ {cfg : Config} {taken log : List (List ℕ)} {s : State} (k : Ready cfg taken log s) (small : 2 * cfg.variables ≤ undef_lit) (c : List ℕ)
    (range : Every (λ l. l < 2 * cfg.variables) c) where
  -- answer 0 exactly when `ok` is false afterwards
  pub add_zero : ((add_clause cfg s c).answer ≡ 0) ↔ ((add_clause cfg s c).state.ok ≡ false)
  add_zero = taken-zero (intake k small c range)

  -- answered 0: with it the clauses taken have no model
  pub add_refuted : (add_clause cfg s c).answer ≡ 0 → Rup (log ++ (taken ++ (c ∷ []))) []
  unfolding fed
  add_refuted e = rw e at ((add_ready k small c range).sound.bad (add_zero.0 e))
