-- A turn that goes on has less left, so a search has turns enough: it always ends by a turn that ends it.
use Rattle.std.specs.Prelude.{◌≡◌, refl, List, ℕ, zero, suc, ◌*◌, ◌≤◌, ◌<◌}
use Rattle.std.proofs.Common.{sym, ◌∙◌, subst, inl, inr, arith}
use Rattle.model.specs.Lit.{no_reason}
use Rattle.model.specs.Script.{Config}
use Rattle.model.specs.State.{Solver}
use Rattle.model.specs.Search.{Searched, Turn, goes_on, ends, turn, search}
use Rattle.lawbase.specs.Basics.{Every}
use Rattle.ends.specs.Credit.{Ongoing, left}
use Rattle.ends.proofs.Credit.{left_conflict, left_decision}
use Rattle.ends.specs.Comes.{Comes, conflict, decision, refuted, full, stopped, completed, falsified}
use Rattle.ends.proofs.Comes.{comes}
use Rattle.ends.specs.Turns.{Then, Less}

pub comes_less : {cfg : Config} {ps : List ℕ} {budget nof a b : ℕ} {x : Solver} {t : Turn} → Comes cfg ps budget nof a b x t
    → Then (Less cfg ps budget nof a b x) (λ r. Unit {0}) t
comes_less {cfg} {ps} {x = x} (conflict confl s s' c l e) =
    record {
      ongoing = l.ongoing;
      less = left_conflict cfg ps x.state s' l.less;
      step = inl (record { conflicts = refl; conflict_c = refl; spent = l.less; shallower = l.shallower });
    }
comes_less {cfg} {ps} {x = x} (decision s s' g e d) =
    record {
      ongoing = d.ongoing;
      less = left_decision cfg ps x.state s' d.ongoing d.kept d.deeper;
      step = inr (record { conflicts = refl; conflict_c = refl; kept = d.kept; deeper = d.deeper; searches = g.searches; affords = g.affords });
    }
comes_less (refuted confl s c r z) = tt
comes_less (full confl s c r z f) = tt
comes_less (stopped s r o t) = tt
comes_less (completed s s' g r d m) = tt
comes_less (falsified s s' final g r d m) = tt

module _ (cfg : Config) (assumptions : List ℕ) (budget nof turns a b : ℕ) (x : Solver) where
  pub search_goes : (a' b' : ℕ) (x' : Solver) → turn cfg assumptions budget nof a b x ≡ goes_on a' b' x'
      → search cfg assumptions budget nof (suc turns) a b x ≡ search cfg assumptions budget nof turns a' b' x'
  unfolding search
  search_goes a' b' x' e = rw (e, search)

  pub search_ends : (r : Searched) → turn cfg assumptions budget nof a b x ≡ ends r → search cfg assumptions budget nof (suc turns) a b x ≡ r
  unfolding search
  search_ends r e = rw (e, search)

module _ (cfg : Config) (small : cfg.max_clauses ≤ no_reason) (ps : List ℕ) (range : Every (λ p. p < 2 * cfg.variables) ps) (budget nof : ℕ) where
  pub turn_less : (a b : ℕ) (x : Solver) → Ongoing cfg ps x.state → (a' b' : ℕ) (x' : Solver) → turn cfg ps budget nof a b x ≡ goes_on a' b' x'
      → Less cfg ps budget nof a b x a' b' x'
  turn_less a b x o a' b' x' e =
      subst (Then (Less cfg ps budget nof a b x) (λ r. Unit {0})) e (comes_less (comes cfg small ps range budget nof a b x o))

  -- what each turn that goes on keeps, and each that ends yields, a search yields
  module _ (P : ℕ → ℕ → Solver → Type 0) (Q : Searched → Type 0)
      (step : (a b : ℕ) (x : Solver) → Ongoing cfg ps x.state → P a b x → (t : Turn) → turn cfg ps budget nof a b x ≡ t
      → Comes cfg ps budget nof a b x t → Then P Q t) where
    one_turn : (turns a b : ℕ) (x : Solver) → left cfg ps x.state < suc turns
        → ((a' b' : ℕ) (x' : Solver) → Ongoing cfg ps x'.state → P a' b' x' → left cfg ps x'.state < turns
        → Q (search cfg ps budget nof turns a' b' x'))
        → (t : Turn) → turn cfg ps budget nof a b x ≡ t → Then (Less cfg ps budget nof a b x) (λ r. Unit {0}) t → Then P Q t
        → Q (search cfg ps budget nof (suc turns) a b x)
    one_turn turns a b x h rec (goes_on a' b' x') e l p =
        rw (search_goes cfg ps budget nof turns a b x a' b' x' e) (rec a' b' x' l.ongoing p (omega (arith, l.less)))
    one_turn turns a b x h rec (ends r) e l q = rw (search_ends cfg ps budget nof turns a b x r e) q

    pub search_ind : (turns a b : ℕ) (x : Solver) → Ongoing cfg ps x.state → P a b x → left cfg ps x.state < turns
        → Q (search cfg ps budget nof turns a b x)
    search_ind zero a b x o p h = absurd (omega arith)
    search_ind (suc turns) a b x o p h =
        let c = comes cfg small ps range budget nof a b x o in
        one_turn turns a b x h (search_ind turns) (turn cfg ps budget nof a b x) refl (comes_less c) (step a b x o p (turn cfg ps budget nof a b x) refl c)

  -- ---- turns enough

  more_turns : (turns turns' a b : ℕ) (x : Solver) → left cfg ps x.state < suc turns → left cfg ps x.state < suc turns'
      → ((a' b' : ℕ) (x' : Solver) → Ongoing cfg ps x'.state → left cfg ps x'.state < turns → left cfg ps x'.state < turns'
      → search cfg ps budget nof turns a' b' x' ≡ search cfg ps budget nof turns' a' b' x')
      → (t : Turn) → turn cfg ps budget nof a b x ≡ t → Then (Less cfg ps budget nof a b x) (λ r. Unit {0}) t
      → search cfg ps budget nof (suc turns) a b x ≡ search cfg ps budget nof (suc turns') a b x
  more_turns turns turns' a b x h h' rec (goes_on a' b' x') e l =
      search_goes cfg ps budget nof turns a b x a' b' x' e
      ∙ rec a' b' x' l.ongoing (omega (arith, l.less)) (omega (arith, l.less))
      ∙ sym (search_goes cfg ps budget nof turns' a b x a' b' x' e)
  more_turns turns turns' a b x h h' rec (ends r) e l =
      search_ends cfg ps budget nof turns a b x r e ∙ sym (search_ends cfg ps budget nof turns' a b x r e)

  -- any number of turns above what is left gives the same
  pub search_enough : (turns turns' a b : ℕ) (x : Solver) → Ongoing cfg ps x.state → left cfg ps x.state < turns → left cfg ps x.state < turns'
      → search cfg ps budget nof turns a b x ≡ search cfg ps budget nof turns' a b x
  search_enough zero turns' a b x o h h' = absurd (omega arith)
  search_enough (suc turns) zero a b x o h h' = absurd (omega arith)
  search_enough (suc turns) (suc turns') a b x o h h' =
      more_turns turns turns' a b x h h' (λ a' b' x'. search_enough turns turns' a' b' x') (turn cfg ps budget nof a b x) refl
      (comes_less (comes cfg small ps range budget nof a b x o))

  -- as many turns as are left, and one: what a loop without turns does
  abbrev pub searched : ℕ → ℕ → Solver → Searched
  searched a b x = search cfg ps budget nof (suc (left cfg ps x.state)) a b x

  pub searched_ends : (a b : ℕ) (x : Solver) (r : Searched) → turn cfg ps budget nof a b x ≡ ends r → searched a b x ≡ r
  searched_ends a b x r e = search_ends cfg ps budget nof (left cfg ps x.state) a b x r e
