-- More turns change no search: those that `search` has are enough, and so is one more than what is left.
use Rattle.std.specs.Prelude.{◌≡◌, List, ℕ, suc, ◌+◌, ◌*◌, ◌≤◌, ◌<◌}
use Rattle.std.proofs.Common.{◌∙◌, arith}
use Rattle.model.specs.Lit.{no_reason}
use Rattle.model.specs.Script.{Config}
use Rattle.model.specs.State.{Solver}
use Rattle.model.specs.Search.{goes_on, most_turns, turn, search}
use Rattle.lawbase.specs.Basics.{Every}
use Rattle.ends.specs.Credit.{Ongoing, left}
use Rattle.ends.proofs.Credit.{left_most}
use Rattle.ends.proofs.Turns.{search_enough, searched, turn_less, search_goes}

module _ (cfg : Config) (small : cfg.max_clauses ≤ no_reason) (ps : List ℕ) (range : Every (λ p. p < 2 * cfg.variables) ps) (budget nof : ℕ) where
  -- ---- turns enough

  pub search_more : (turns k a b : ℕ) (x : Solver) → Ongoing cfg ps x.state → left cfg ps x.state < turns
      → search cfg ps budget nof turns a b x ≡ search cfg ps budget nof (turns + k) a b x
  search_more turns k a b x o h = search_enough cfg small ps range budget nof turns (turns + k) a b x o h (omega arith)

  pub search_most : (a b : ℕ) (x : Solver) → Ongoing cfg ps x.state → search cfg ps budget nof (most_turns cfg ps) a b x ≡ searched cfg small ps range budget nof a b x
  search_most a b x o = search_enough cfg small ps range budget nof (most_turns cfg ps) (suc (left cfg ps x.state)) a b x o (left_most cfg ps x.state) (omega arith)

  pub searched_goes : (a b : ℕ) (x : Solver) → Ongoing cfg ps x.state → (a' b' : ℕ) (x' : Solver)
      → turn cfg ps budget nof a b x ≡ goes_on a' b' x' → searched cfg small ps range budget nof a b x ≡ searched cfg small ps range budget nof a' b' x'
  searched_goes a b x o a' b' x' e =
      let l = turn_less cfg small ps range budget nof a b x o a' b' x' e in
      search_goes cfg ps budget nof (left cfg ps x.state) a b x a' b' x' e
      ∙ search_enough cfg small ps range budget nof (left cfg ps x.state) (suc (left cfg ps x'.state)) a' b' x' l.ongoing l.less (omega arith)
