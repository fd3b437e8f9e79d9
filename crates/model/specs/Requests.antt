-- Cases of document 02's requests, by running the definitions.
use Rattle.std.specs.Prelude.{◌≡◌, refl, [], ◌∷◌}
use Rattle.model.specs.State.{f64_one}
use Rattle.model.specs.Exec.{out}
use Rattle.model.specs.Run.{after, untouched, turned_back, ran}

pub record Requests : Type 0 where
  -- Q-2: a script of no cells runs and touches no slice, one of one cell is refused
  pub no_cells : after [] (7 ∷ []) (f64_one ∷ []) (9 ∷ []) ≡ untouched (ran 0) (7 ∷ []) (f64_one ∷ []) (9 ∷ [])
  pub no_slices : after [] [] [] [] ≡ untouched (ran 0) [] [] []
  pub one_cell : after (2 ∷ []) (7 ∷ []) (f64_one ∷ []) (9 ∷ []) ≡ untouched (turned_back 1 1) (7 ∷ []) (f64_one ∷ []) (9 ∷ [])

pub requests : Requests
unfolding out
requests = record { no_cells = refl; no_slices = refl; one_cell = refl }
