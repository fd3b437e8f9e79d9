-- The turns of a search, and the searches of a solve.
use Rattle.std.specs.Prelude.{ℕ, suc, ◌+◌, ◌*◌, ◌≤◌, ◌<◌, ◌≡◌, refl, ◌≢◌, ◌⊎◌, List, None as none, Some as some}
use Rattle.std.proofs.Math.Nat.{one-le-mul}
use Rattle.std.proofs.Common.{add-one, arith, sym, ap, subst, ◌∙◌, inl, inr}
use Rattle.model.specs.Lit.{no_reason}
use Rattle.model.specs.Luby.{luby}
use Rattle.model.specs.Script as Script
use Rattle.model.specs.State.{decision_level}
use Rattle.model.specs.Search as model
use Rattle.luby.specs.Laws.{Term, luby_pos}
use Rattle.ends.specs.Credit.{Ongoing, credit, left}
use Rattle.ends.proofs.Credit.{credit_most}
use Rattle.ends.specs.Turns.{Less}
use Rattle.ends.proofs.MoreTurns.{search_most, searched_goes}
use Rattle.ends.proofs.Turns.{turn_less, searched_ends}
use Rattle.ends.specs.Last.{Last, Between}
use Rattle.ends.proofs.Last.{between_start, between_step, search_last_most}
use Rattle.ends.specs.Restart.{Again, Restarted}
use Rattle.ends.proofs.Restart.{restarted}
use Rattle.ends.specs.Rounds.{Round}
use Rattle.ends.proofs.Rounds.{first_round, next_round, solve_most, solved_goes, solved_ends}
use Rattle.ends.specs.Bounds.{Limited}
use Rattle.ends.proofs.Bounds.{restarts_index, nof_most}
use Rattle.state.specs.declared.Config.{Config}
use Rattle.state.specs.declared.State.{State}
use Rattle.state.specs.Still.{Still, state_at, config_of}
use Rattle.search.specs.declared.Solver.{Solver}
use Rattle.search.specs.declared.Status.{Status}
use Rattle.search.specs.declared.Conflicts.{Conflicts}
use Rattle.search.specs.declared.Searched.{Searched}
use Rattle.search.specs.Held.{solver_at, status_of, searched_of, Assumable, Running, Left, Kept, Turned, Ended}
use Rattle.search.specs.Turning.{kept_then}

pub kept_none : {x : Solver} → Kept x x
kept_none = record { config = refl; counted = refl }

-- ---- the turns of a search

-- A search started from x₀ with `before` conflicts of the solve. Its next turn starts from x, with the conflicts n.
pub record Searching (ps : List ℕ) (budget nof before : ℕ) (x₀ : Solver) (n : Conflicts) (x : Solver) : Type 0 where
  pub running : Running ps x
  pub kept : Kept x₀ x
  pub between : Between (config_of x₀.state.config) ps budget before (solver_at x₀) n.solve n.search (solver_at x)
  -- what is left to do gives the whole
  pub same : model.search (config_of x₀.state.config) ps budget nof (suc (left (config_of x₀.state.config) ps (state_at x.state))) n.solve n.search (solver_at x)
      ≡ model.search (config_of x₀.state.config) ps budget nof (model.most_turns (config_of x₀.state.config) ps) before 0 (solver_at x₀)

small_of : {ps : List ℕ} {x : Solver} → Running ps x → x.state.config.room ≤ no_reason
small_of r = omega (arith, r.still.sized.room)

-- under the configuration that x had before
ongoing_in : {ps : List ℕ} {x₀ x : Solver} → Kept x₀ x → Running ps x → Ongoing (config_of x₀.state.config) ps (state_at x.state)
ongoing_in {ps} {x₀} {x} k r = subst (λ (g : Config). Ongoing (config_of g) ps (state_at x.state)) k.config r.ongoing

running_on : {ps : List ℕ} {x₀ x : Solver} → Running ps x₀ → Kept x₀ x → Still x.state → Ongoing (config_of x₀.state.config) ps (state_at x.state) → Running ps x
running_on {ps} {x₀} {x} r k s o =
    record {
      still = s;
      ongoing = subst (λ (g : Config). Ongoing (config_of g) ps (state_at x.state)) (sym k.config) o;
      counted = k.counted ∙ r.counted ∙ sym (ap (λ (g : Config). g.vars) k.config);
      assumable = subst (λ (g : Config). Assumable g ps) (sym k.config) r.assumable;
    }

pub searching_starts : {ps : List ℕ} (budget nof before : ℕ) {x : Solver} → Running ps x → Searching ps budget nof before x (record { solve = before; search = 0 }) x
searching_starts {ps} budget nof before {x} r =
    let cfg = config_of x.state.config in
    record {
      running = r;
      kept = kept_none;
      between = between_start cfg ps budget before (solver_at x);
      same = sym (search_most cfg (small_of r) ps r.assumable.range budget nof before 0 (solver_at x) r.ongoing);
    }

module _ {ps : List ℕ} {budget nof before : ℕ} {x₀ : Solver} {n : Conflicts} {x : Solver} (r₀ : Running ps x₀) (s : Searching ps budget nof before x₀ n x) where
  abbrev cfg : Script.Config
  cfg = config_of x₀.state.config

  -- a conflict more is a word
  pub searching_words : before + credit (config_of x₀.state.config) (state_at x₀.state) ≤ model.most_conflicts (config_of x₀.state.config) → (n.solve < 4294967295) × (n.search < 4294967295)
  unfolding model.most_conflicts
  searching_words h =
      let z = r₀.still.sized in (
        omega (arith, h, s.between.counted, s.between.within.spent, z.vars, z.room),
        omega (arith, h, s.between.counted, s.between.within.spent, z.vars, z.room),
      )

  goes_from : Ongoing (config_of x₀.state.config) ps (state_at x.state)
  goes_from = ongoing_in s.kept s.running

  as_first : model.turn (config_of x.state.config) ps budget nof n.solve n.search (solver_at x) ≡ model.turn (config_of x₀.state.config) ps budget nof n.solve n.search (solver_at x)
  as_first = ap (λ (g : Config). model.turn (config_of g) ps budget nof n.solve n.search (solver_at x)) s.kept.config

  -- the search goes on
  module _ {n' : Conflicts} {x' : Solver} (k : Turned (model.turn (config_of x.state.config) ps budget nof n.solve n.search (solver_at x)) x x' n' none) where
    turned_on : model.turn (config_of x₀.state.config) ps budget nof n.solve n.search (solver_at x) ≡ model.goes_on n'.solve n'.search (solver_at x')
    turned_on = sym (k.is ∙ as_first)

    turned_less : Less (config_of x₀.state.config) ps budget nof n.solve n.search (solver_at x) n'.solve n'.search (solver_at x')
    turned_less =
        turn_less cfg (small_of r₀) ps r₀.assumable.range budget nof n.solve n.search (solver_at x) goes_from n'.solve n'.search (solver_at x') turned_on

    pub searching_less : left (config_of x₀.state.config) ps (state_at x'.state) < left (config_of x₀.state.config) ps (state_at x.state)
    searching_less = turned_less.less

    pub searching_goes : Searching ps budget nof before x₀ n' x'
    searching_goes =
        let q = kept_then s.kept k.kept in
        record {
          running = running_on r₀ q k.left turned_less.ongoing;
          kept = q;
          between = between_step s.between turned_less;
          same =
              sym (searched_goes cfg (small_of r₀) ps r₀.assumable.range budget nof n.solve n.search (solver_at x) goes_from n'.solve n'.search (solver_at x') turned_on)
              ∙ s.same;
        }

  -- the search ends
  pub searching_ends : {n' : Conflicts} {x' : Solver} {t : Status}
      → Turned (model.turn (config_of x.state.config) ps budget nof n.solve n.search (solver_at x)) x x' n' (some t)
      → Ended (model.search (config_of x₀.state.config) ps budget nof (model.most_turns (config_of x₀.state.config) ps) before 0 (solver_at x₀)) x₀ x' (record { status = t; conflicts = n'.solve })
  searching_ends {n'} {x'} {t} k =
      record {
        is =
            sym
            (searched_ends cfg (small_of r₀) ps r₀.assumable.range budget nof n.solve n.search (solver_at x)
            (searched_of x' (record { status = t; conflicts = n'.solve })) (sym (k.is ∙ as_first)))
            ∙ s.same;
        left = k.left;
        kept = kept_then s.kept k.kept;
      }

-- ---- whether another search follows

undef_only : (t : Status) (y : State) → status_of t y ≡ model.UNDEF → t ≡ Status.Undef
undef_only Status.True y e = absurd (let z : ◌≡◌ {A = ℕ} 0 1 = cc in omega arith)
undef_only Status.False y e = absurd (let z : ◌≡◌ {A = ℕ} 0 1 = cc in omega arith)
undef_only Status.Undef y e = refl
undef_only Status.NoStorage y e = absurd (let z : ◌≡◌ {A = ℕ} 0 1 = cc in omega arith)

-- ---- the searches of a solve

-- A solve started from x₀. Its k-th search starts from x, with a conflicts of the solve.
pub record Solving (ps : List ℕ) (budget : ℕ) (x₀ : Solver) (k a : ℕ) (x : Solver) : Type 0 where
  pub running : Running ps x
  pub kept : Kept x₀ x
  pub round : Round (config_of x₀.state.config) ps budget (solver_at x₀) k a (solver_at x)
  -- what is left to do gives the whole
  pub same : model.solve_internal (config_of x₀.state.config) ps budget (suc (credit (config_of x₀.state.config) (state_at x.state))) k a (solver_at x)
      ≡ model.solve_internal (config_of x₀.state.config) ps budget (suc (model.most_conflicts (config_of x₀.state.config))) 0 0 (solver_at x₀)

pub solving_starts : {ps : List ℕ} (budget : ℕ) {x : Solver} → Limited (config_of x.state.config) → Running ps x → decision_level x.state.trail.vars ≡ 0
    → Solving ps budget x 0 0 x
solving_starts {ps} budget {x} l r z =
    let cfg = config_of x.state.config in
    record {
      running = r;
      kept = kept_none;
      round = first_round budget (solver_at x) r.ongoing z;
      same = sym (solve_most cfg (small_of r) l.least_unit ps r.assumable.range budget 0 0 (solver_at x) r.ongoing);
    }

module _ {ps : List ℕ} {budget : ℕ} {x₀ : Solver} {k a : ℕ} {x : Solver} (r₀ : Running ps x₀) (l : Limited (config_of x₀.state.config))
    (s : Solving ps budget x₀ k a x) where
  abbrev setup : Script.Config
  setup = config_of x₀.state.config

  pub solving_index : k < 131072
  solving_index = restarts_index l s.round

  -- the length of a search is a word
  pub solving_word : {n : ℕ} → Term k n → n * x.state.config.unit < 4294967296
  solving_word {n} t =
      let e = ap (λ n. n * x₀.state.config.unit) t.value in
      let u = ap (λ (g : Config). n * g.unit) s.kept.config in
      omega (arith, nof_most l s.round, e, u)

  pub solving_spent : a + credit (config_of x.state.config) (state_at x.state) ≤ model.most_conflicts (config_of x.state.config)
  solving_spent = rw s.kept.config (omega (arith, s.round.spent, credit_most setup (state_at x₀.state)))

  solves_from : Ongoing (config_of x₀.state.config) ps (state_at x.state)
  solves_from = ongoing_in s.kept s.running

  module _ {n : ℕ} (t : Term k n) {x' : Solver} {r : Searched}
      (found : Ended (model.search (config_of x.state.config) ps budget (n * x.state.config.unit) (model.most_turns (config_of x.state.config) ps) a 0 (solver_at x)) x x' r) where
    is_found : searched_of x' r ≡ model.search (config_of x₀.state.config) ps budget (luby k * x₀.state.config.unit) (model.most_turns (config_of x₀.state.config) ps) a 0 (solver_at x)
    is_found =
        found.is
        ∙ ap (λ (g : Config). model.search (config_of g) ps budget (n * g.unit) (model.most_turns (config_of g) ps) a 0 (solver_at x)) s.kept.config
        ∙ ap (λ (n : ℕ). model.search setup ps budget (n * x₀.state.config.unit) (model.most_turns setup ps) a 0 (solver_at x)) t.value

    last : Last (config_of x₀.state.config) ps budget (luby k * x₀.state.config.unit) a (solver_at x) (searched_of x' r)
    last =
        subst (Last setup ps budget (luby k * x₀.state.config.unit) a (solver_at x)) (sym is_found)
        (search_last_most setup (small_of r₀) ps r₀.assumable.range budget (luby k * x₀.state.config.unit) a (solver_at x) solves_from)

    nof_one : 1 ≤ luby k * x₀.state.config.unit
    nof_one = one-le-mul (luby_pos k) l.least_unit

    -- the search was cut short by a restart, not by the budget
    module _ (u : r.status ≡ Status.Undef) (c : r.conflicts < budget) where
      again : Again budget (searched_of x' r)
      again = record { status = ap (λ (t : Status). status_of t x'.state) u; affords = c }

      next : Restarted (config_of x₀.state.config) ps budget a (solver_at x) r.conflicts (solver_at x')
      next = restarted nof_one last again

      pub solving_less : credit (config_of x₀.state.config) (state_at x'.state) < credit (config_of x₀.state.config) (state_at x.state)
      solving_less = next.less

      pub solving_goes : Solving ps budget x₀ (k + 1) r.conflicts x'
      solving_goes =
          let q = kept_then s.kept found.kept in
          subst (λ n. Solving ps budget x₀ n r.conflicts x') (sym (add-one k))
          (record {
            running = running_on r₀ q (subst (λ (t : Status). Left t x'.state) u found.left) next.ongoing;
            kept = q;
            round = next_round s.round nof_one last again;
            same =
                sym
                (subst
                (λ f. model.solve_internal setup ps budget (suc (credit setup (state_at x.state))) k a (solver_at x)
                ≡ model.solve_internal setup ps budget (suc (credit setup f.solver.state)) (suc k) f.conflicts f.solver)
                (sym is_found)
                (solved_goes setup (small_of r₀) l.least_unit ps r₀.assumable.range budget k a (solver_at x) solves_from (subst (Again budget) is_found again)))
                ∙ s.same;
          })

    pub solving_ends : (r.status ≢ Status.Undef) ⊎ (budget ≤ r.conflicts)
        → Ended (model.solve_internal (config_of x₀.state.config) ps budget (suc (model.most_conflicts (config_of x₀.state.config))) 0 0 (solver_at x₀)) x₀ x' r
    solving_ends e =
        record {
          is =
              is_found
              ∙ sym
              (solved_ends setup (small_of r₀) l.least_unit ps r₀.assumable.range budget k a (solver_at x)
              (λ n. never e (subst (Again budget) (sym is_found) n)))
              ∙ s.same;
          left = found.left;
          kept = kept_then s.kept found.kept;
        }
      where
        never : (r.status ≢ Status.Undef) ⊎ (budget ≤ r.conflicts) → Again budget (searched_of x' r) → ⊥
        never (inl d) n = d (undef_only r.status x'.state n.status)
        never (inr b) n = omega (arith, n.affords)
