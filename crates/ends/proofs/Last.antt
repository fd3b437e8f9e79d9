-- The last turn of a search, and what the search has spent by then.
use Rattle.std.specs.Prelude.{◌≡◌, ◌⊎◌, List, ℕ, ◌+◌, ◌*◌, ◌≤◌, ◌<◌}
use Rattle.std.proofs.Common.{subst, inl, inr, arith}
use Rattle.model.specs.Lit.{no_reason}
use Rattle.model.specs.Script.{Config}
use Rattle.model.specs.State.{State, Solver, decision_level}
use Rattle.model.specs.Search.{Turn, goes_on, ends, most_turns, search}
use Rattle.lawbase.specs.Basics.{Every}
use Rattle.ends.specs.Credit.{Ongoing, left}
use Rattle.ends.proofs.Credit.{ongoing_bound, left_most}
use Rattle.ends.specs.Comes.{Comes}
use Rattle.ends.specs.Turns.{Then, Conflicted, Deeper, Less}
use Rattle.ends.proofs.Turns.{comes_less, search_ind}
use Rattle.ends.specs.Last.{height, Between, Last}

height_decision : (cfg : Config) (ps : List ℕ) (budget c : ℕ) (s : State) → Ongoing cfg ps s → c < budget → (d : ℕ) → d ≡ c
    → d + decision_level s.vars ≤ height cfg ps budget
unfolding height
height_decision cfg ps budget c s o h d e = omega (arith, ongoing_bound o)

pub between_start : (cfg : Config) (ps : List ℕ) (budget a : ℕ) (x : Solver) → Between cfg ps budget a x a 0 x
between_start cfg ps budget a x = record { counted = omega arith; within = record { spent = omega arith; high = λ h. omega arith } }

-- a turn that goes on keeps it
pub between_step : {cfg : Config} {ps : List ℕ} {budget nof a : ℕ} {x : Solver} {c b : ℕ} {y : Solver} {c' b' : ℕ} {y' : Solver}
    → Between cfg ps budget a x c b y → Less cfg ps budget nof c b y c' b' y' → Between cfg ps budget a x c' b' y'
between_step {cfg} {ps} {budget} {nof} {a} {x} {c} {b} {y} {c'} {b'} {y'} w l = go l.step
  where
    go : Conflicted cfg c b y c' b' y' ⊎ Deeper cfg budget nof c b y c' b' y' → Between cfg ps budget a x c' b' y'
    go (inl k) =
        record {
          counted = omega (arith, w.counted, k.conflicts, k.conflict_c);
          within = record {
            spent = omega (arith, w.within.spent, k.spent, k.conflict_c);
            high = λ h. omega (arith, w.within.high h, k.shallower, k.conflict_c);
          };
        }
    go (inr k) =
        record {
          counted = omega (arith, w.counted, k.conflicts, k.conflict_c);
          within = record {
            spent = omega (arith, w.within.spent, k.kept, k.conflict_c);
            high = λ h. height_decision cfg ps budget c y'.state l.ongoing k.affords (a + b') (omega (arith, w.counted, k.conflict_c));
          };
        }

module _ (cfg : Config) (small : cfg.max_clauses ≤ no_reason) (ps : List ℕ) (range : Every (λ p. p < 2 * cfg.variables) ps) (budget nof a : ℕ) (x : Solver) where
  last_step : (c b : ℕ) (y : Solver) → Ongoing cfg ps y.state → Between cfg ps budget a x c b y → (t : Turn) → Comes cfg ps budget nof c b y t
      → Then (Less cfg ps budget nof c b y) (λ r. Unit {0}) t → Then (Between cfg ps budget a x) (Last cfg ps budget nof a x) t
  last_step c b y o w (goes_on c' b' y') k l = between_step w l
  last_step c b y o w (ends r) k l =
      record {
        from = y;
        had = b;
        ongoing = o;
        within = w.within;
        comes = subst (λ c. Comes cfg ps budget nof c b y (ends r)) w.counted k;
      }

  pub search_last : (turns : ℕ) → Ongoing cfg ps x.state → left cfg ps x.state < turns
      → Last cfg ps budget nof a x (search cfg ps budget nof turns a 0 x)
  search_last turns o h =
      search_ind cfg small ps range budget nof (Between cfg ps budget a x) (Last cfg ps budget nof a x)
      (λ c b y o p t e k. last_step c b y o p t k (comes_less k)) turns a 0 x o (between_start cfg ps budget a x) h

  pub search_last_most : Ongoing cfg ps x.state → Last cfg ps budget nof a x (search cfg ps budget nof (most_turns cfg ps) a 0 x)
  search_last_most o = search_last (most_turns cfg ps) o (left_most cfg ps x.state)
