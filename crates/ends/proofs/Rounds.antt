-- The searches of a solve: how many there are, and what holds at the start of each and at the end.
use Rattle.std.specs.Prelude.{◌≡◌, refl, ◌⊎◌, List, ℕ, zero, suc, ◌*◌, ◌≤◌, ◌<◌}
use Rattle.std.proofs.Common.{sym, ◌∙◌, inl, inr, arith}
use Rattle.std.proofs.Math.Nat.{one-le-mul}
use Rattle.model.specs.Lit.{no_reason}
use Rattle.model.specs.Luby.{luby}
use Rattle.model.specs.Script.{Config}
use Rattle.model.specs.State.{Solver, decision_level}
use Rattle.model.specs.Search.{Searched, most_conflicts, most_turns, search, solve_internal}
use Rattle.lawbase.specs.Basics.{Every}
use Rattle.luby.specs.Laws.{luby_pos}
use Rattle.ends.specs.Credit.{Ongoing, credit}
use Rattle.ends.proofs.Credit.{credit_most}
use Rattle.ends.specs.Last.{Last}
use Rattle.ends.proofs.Last.{search_last_most}
use Rattle.ends.specs.Restart.{Again, round}
use Rattle.ends.proofs.Restart.{again?, solve-round, round_goes, round_ends, restarted}
use Rattle.ends.specs.Rounds.{Round, Final}

pub first_round : {cfg : Config} {ps : List ℕ} (budget : ℕ) (x : Solver) → Ongoing cfg ps x.state → decision_level x.state.vars ≡ 0
    → Round cfg ps budget x 0 0 x
first_round budget x o z = record { ongoing = o; flat = z; restarts = omega arith; spent = omega arith; high = omega arith }

pub next_round : {cfg : Config} {ps : List ℕ} {budget : ℕ} {x₀ : Solver} {k a : ℕ} {x : Solver} {nof : ℕ} {r : Searched} → Round cfg ps budget x₀ k a x
    → 1 ≤ nof → Last cfg ps budget nof a x r → Again budget r → Round cfg ps budget x₀ (suc k) r.conflicts r.solver
next_round w one l h =
    let s = restarted one l h in
    record {
      ongoing = s.ongoing;
      flat = s.flat;
      restarts = omega (arith, w.restarts, s.less);
      spent = omega (arith, w.spent, s.spent);
      high = s.high (omega (arith, w.high, w.flat));
    }

module _ (cfg : Config) (small : cfg.max_clauses ≤ no_reason) (unit : 1 ≤ cfg.unit) (ps : List ℕ) (range : Every (λ p. p < 2 * cfg.variables) ps)
    (budget : ℕ) where
  nof_pos : (k : ℕ) → 1 ≤ luby k * cfg.unit
  nof_pos k = one-le-mul (luby_pos k) unit

  -- the search of a round
  abbrev pub found : ℕ → ℕ → Solver → Searched
  found k a x = search cfg ps budget (luby k * cfg.unit) (most_turns cfg ps) a 0 x

  module _ (x₀ : Solver) where
    -- what a round that another one follows keeps, and the last one yields, a solve yields
    module _ (P : ℕ → ℕ → Solver → Type 0) (Q : Searched → Type 0)
        (again : (k a : ℕ) (x : Solver) → Round cfg ps budget x₀ k a x → P k a x → (r : Searched) → found k a x ≡ r
        → Last cfg ps budget (luby k * cfg.unit) a x r → Again budget r → P (suc k) r.conflicts r.solver)
        (over : (k a : ℕ) (x : Solver) → Round cfg ps budget x₀ k a x → P k a x → (r : Searched) → found k a x ≡ r
        → Last cfg ps budget (luby k * cfg.unit) a x r → (Again budget r → ⊥) → Q r) where
      one_round : (turns k a : ℕ) (x : Solver) → Round cfg ps budget x₀ k a x → P k a x → credit cfg x.state < suc turns
          → ((k' a' : ℕ) (x' : Solver) → Round cfg ps budget x₀ k' a' x' → P k' a' x' → credit cfg x'.state < turns
          → Q (solve_internal cfg ps budget turns k' a' x'))
          → (r : Searched) → found k a x ≡ r → Last cfg ps budget (luby k * cfg.unit) a x r → Again budget r ⊎ (Again budget r → ⊥)
          → Q (round cfg ps budget turns k r)
      one_round turns k a x w p h rec r e l (inl n) =
          rw (round_goes cfg ps budget turns k r n)
          (rec (suc k) r.conflicts r.solver (next_round w (nof_pos k) l n) (again k a x w p r e l n)
          (omega (arith, (restarted (nof_pos k) l n).less)))
      one_round turns k a x w p h rec r e l (inr n) = rw (round_ends cfg ps budget turns k r n) (over k a x w p r e l n)

      pub solve_ind : (turns k a : ℕ) (x : Solver) → Round cfg ps budget x₀ k a x → P k a x → credit cfg x.state < turns
          → Q (solve_internal cfg ps budget turns k a x)
      solve_ind zero k a x w p h = absurd (omega arith)
      solve_ind (suc turns) k a x w p h =
          rw (solve-round cfg ps budget turns k a x)
          (one_round turns k a x w p h (solve_ind turns) (found k a x) refl
          (search_last_most cfg small ps range budget (luby k * cfg.unit) a x w.ongoing)
          (again? budget (found k a x)))

    pub solve_final : (turns : ℕ) → Ongoing cfg ps x₀.state → decision_level x₀.state.vars ≡ 0 → credit cfg x₀.state < turns
        → Final cfg ps budget x₀ (solve_internal cfg ps budget turns 0 0 x₀)
    solve_final turns o z h =
        solve_ind (λ k a x. Unit {0}) (Final cfg ps budget x₀) (λ k a x w p r e l n. tt)
        (λ k a x w p r e l n. record { restarts = k; before = a; from = x; round = w; last = l; over = n })
        turns 0 0 x₀ (first_round budget x₀ o z) tt h

  -- ---- turns enough

  more_rounds : (turns turns' k a : ℕ) (x : Solver) → 1 ≤ luby k * cfg.unit → credit cfg x.state < suc turns → credit cfg x.state < suc turns'
      → ((k' a' : ℕ) (x' : Solver) → Ongoing cfg ps x'.state → credit cfg x'.state < turns → credit cfg x'.state < turns'
      → solve_internal cfg ps budget turns k' a' x' ≡ solve_internal cfg ps budget turns' k' a' x')
      → (r : Searched) → Last cfg ps budget (luby k * cfg.unit) a x r → Again budget r ⊎ (Again budget r → ⊥)
      → round cfg ps budget turns k r ≡ round cfg ps budget turns' k r
  more_rounds turns turns' k a x one h h' rec r l (inl n) =
      let s = restarted one l n in
      round_goes cfg ps budget turns k r n
      ∙ rec (suc k) r.conflicts r.solver s.ongoing (omega (arith, s.less)) (omega (arith, s.less))
      ∙ sym (round_goes cfg ps budget turns' k r n)
  more_rounds turns turns' k a x one h h' rec r l (inr n) = round_ends cfg ps budget turns k r n ∙ sym (round_ends cfg ps budget turns' k r n)

  -- any number of turns above the credit gives the same
  pub solve_enough : (turns turns' k a : ℕ) (x : Solver) → Ongoing cfg ps x.state → credit cfg x.state < turns → credit cfg x.state < turns'
      → solve_internal cfg ps budget turns k a x ≡ solve_internal cfg ps budget turns' k a x
  solve_enough zero turns' k a x o h h' = absurd (omega arith)
  solve_enough (suc turns) zero k a x o h h' = absurd (omega arith)
  solve_enough (suc turns) (suc turns') k a x o h h' =
      solve-round cfg ps budget turns k a x
      ∙ more_rounds turns turns' k a x (nof_pos k) h h' (λ k' a' x'. solve_enough turns turns' k' a' x') (found k a x)
      (search_last_most cfg small ps range budget (luby k * cfg.unit) a x o) (again? budget (found k a x))
      ∙ sym (solve-round cfg ps budget turns' k a x)

  -- as many turns as there is credit, and one: what a loop without turns does
  abbrev pub solved : ℕ → ℕ → Solver → Searched
  solved k a x = solve_internal cfg ps budget (suc (credit cfg x.state)) k a x

  pub solve_most : (k a : ℕ) (x : Solver) → Ongoing cfg ps x.state → solve_internal cfg ps budget (suc (most_conflicts cfg)) k a x ≡ solved k a x
  solve_most k a x o =
      solve_enough (suc (most_conflicts cfg)) (suc (credit cfg x.state)) k a x o (omega (arith, credit_most cfg x.state)) (omega arith)

  pub solved_goes : (k a : ℕ) (x : Solver) → Ongoing cfg ps x.state → Again budget (found k a x)
      → solved k a x ≡ solved (suc k) (found k a x).conflicts (found k a x).solver
  solved_goes k a x o n =
      let s = restarted (nof_pos k) (search_last_most cfg small ps range budget (luby k * cfg.unit) a x o) n in
      solve-round cfg ps budget (credit cfg x.state) k a x
      ∙ round_goes cfg ps budget (credit cfg x.state) k (found k a x) n
      ∙ solve_enough (credit cfg x.state) (suc (credit cfg (found k a x).solver.state)) (suc k) (found k a x).conflicts (found k a x).solver s.ongoing
      s.less (omega arith)

  pub solved_ends : (k a : ℕ) (x : Solver) → (Again budget (found k a x) → ⊥) → solved k a x ≡ found k a x
  solved_ends k a x n =
      solve-round cfg ps budget (credit cfg x.state) k a x ∙ round_ends cfg ps budget (credit cfg x.state) k (found k a x) n
