-- The mask of a clause's own levels lets pass what is traced to the clause.
use Rattle.std.specs.Prelude.{List, ℕ}
use Rattle.model.specs.State.{Store, VarState}
use Rattle.model.specs.Minimise.{abstract_levels}
use Rattle.lawbase.specs.Basics.{Every}
use Rattle.lawbase.specs.WellFormed.{Entries}
use Rattle.watching.specs.Covered.{Tied}
use Rattle.mask.proofs.OwnMask.{own_passes}
use Rattle.mask.proofs.Back.{Lets}
use Rattle.mask.proofs.Levels.{level_of_one}

-- t is the trail, newest first
module _ (n : ℕ) (st : Store) (vs : VarState) (t : List ℕ) (w : Entries n st.clauses vs t) (clause : List ℕ) where
  -- ---- the clause's own mask

  module _ (tied : Every (Tied st.clauses vs) t) where
    -- so the mask of the clause's levels lets pass what is traced to the clause
    pub own_lets : Lets n st vs t w clause (abstract_levels vs 0 clause)
    own_lets q i z r =
        let x = level_of_one n st vs t w clause tied q i z r in
        own_passes vs x.literal q x.member x.level
