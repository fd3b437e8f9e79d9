-- What holds of the kinds of records. Each law here has a case for each kind; the walk over the records goes by these laws.
use Rattle.std.specs.Prelude.{ℕ, ◌+◌, ◌*◌, ◌≤◌, min, ◌≡◌, ◌⊎◌, Bool, true, false, ◌||◌, List, [], ◌∷◌, length, eqb, Result, MatchResult}
use Rattle.std.proofs.Math.Path.{refl}
use Rattle.std.proofs.Common.{sym, subst, inl, inr, eqb-true, ne_eqb}
use native.Mathlib.Omega.{arith}
use Rattle.std.proofs.Math.Decide.{ℕ_discrete}
use Rattle.std.proofs.Math.ListN.{get_or}
use Rattle.model.specs.Limits as Limits
use Rattle.refusal.specs.declared.Rule.{Rule}
use Rattle.refusal.specs.declared.Rule.TheVariants.{BadRecord}
use Rattle.script.specs.declared.Kind.{Kind}
use Rattle.script.specs.declared.Kind.TheVariants.{Clause, Solve}
use Rattle.script.specs.declared.Record as code
use Rattle.script.specs.declared.Record.TheVariants as R
use Rattle.model.specs.Script.{Record, clause, solve, clause_kind, solve_kind, known, most_count, limits, trailing, kind_of, record_as}

-- ---- as the code has them

-- a kind's number in a script
abbrev pub cell_of : Kind → ℕ
cell_of Clause = clause_kind
cell_of Solve = solve_kind

-- the kind of this number, or row 7
abbrev pub IsKindOf : ℕ → Result Kind Rule → Type 0
IsKindOf cell r = MatchResult r (λ kind. cell_of kind ≡ cell) (λ rule. (rule ≡ BadRecord) × (known cell ≡ false))

pub known_of : (kind : Kind) (cell : ℕ) → cell_of kind ≡ cell → known cell ≡ true
unfolding known
known_of Clause cell e = rw (← e) refl
known_of Solve cell e = rw (← e) refl

-- the definition's record
abbrev pub record_of : code.Record → Record
record_of (R.Clause literals) = clause literals.now
record_of (R.Solve assumptions budget) = solve assumptions.now budget

abbrev pub literals_of : Record → List ℕ
literals_of (clause literals) = literals
literals_of (solve assumptions budget) = assumptions

-- the cells that a record takes: its kind, its count, its literals, and a solve's budget
abbrev pub cells_of : Record → ℕ
cells_of (clause literals) = 2 + length literals
cells_of (solve assumptions budget) = 3 + length assumptions

-- ----

or_cases : (a b : Bool) → (a || b) ≡ true → (a ≡ true) ⊎ (b ≡ true)
or_cases true b e = inl refl
or_cases false b e = inr e

-- what holds of each kind holds of every known one
pub kind_cases : (P : ℕ → Type 0) → P clause_kind → P solve_kind → (kind : ℕ) → known kind ≡ true → P kind
unfolding known
kind_cases P c s kind h = go (or_cases (eqb kind clause_kind) (eqb kind solve_kind) h)
  where
    go : (eqb kind clause_kind ≡ true) ⊎ (eqb kind solve_kind ≡ true) → P kind
    go (inl e) = subst P (sym (eqb-true kind clause_kind e)) c
    go (inr e) = subst P (sym (eqb-true kind solve_kind e)) s

-- the record made of a known kind is of that kind
pub kind_as : (kind : ℕ) (before literals behind : List ℕ) → known kind ≡ true → kind_of (record_as kind before literals behind) ≡ kind
unfolding record_as kind_of
kind_as kind before literals behind = kind_cases (λ k. kind_of (record_as k before literals behind) ≡ k) refl refl kind

-- ---- by the tests that the code makes

module _ (kind : ℕ) where
  module _ (e : kind ≡ solve_kind) where
    pub limits-solve : limits kind ≡ Limits.max_budget ∷ []
    unfolding limits
    limits-solve = rw e

    pub trailing-solve : trailing kind ≡ 1
    unfolding trailing limits
    trailing-solve = rw e

    pub record_solve : (before literals behind : List ℕ) → record_as kind before literals behind ≡ solve literals (get_or behind 0 0)
    unfolding record_as
    record_solve before literals behind = rw e

  module _ (e : kind ≡ solve_kind → ⊥) where
    pub limits_other : limits kind ≡ []
    unfolding limits
    limits_other = rw (ne_eqb kind solve_kind e, limits)

    pub trailing_other : trailing kind ≡ 0
    unfolding trailing limits
    trailing_other = rw (ne_eqb kind solve_kind e, limits)

    pub record_other : (before literals behind : List ℕ) → record_as kind before literals behind ≡ clause literals
    unfolding record_as
    record_other before literals behind = rw (ne_eqb kind solve_kind e, record_as)

  module _ (v : ℕ) where
    -- a clause has a limit of its own too, the smaller of the two counts
    pub count-clause : kind ≡ clause_kind → most_count kind v ≡ min Limits.longest_clause (2 * v)
    unfolding most_count
    count-clause e = rw e

    pub count_other : (kind ≡ clause_kind → ⊥) → most_count kind v ≡ 2 * v
    unfolding most_count
    count_other e = rw (ne_eqb kind clause_kind e, most_count)

  -- ---- bounds, so that places can be counted

  pub trailing_le : trailing kind ≤ 2
  trailing_le = go (ℕ_discrete kind solve_kind)
    where
      go : Dec (kind ≡ solve_kind) → trailing kind ≤ 2
      go (yes e) = omega (arith, trailing-solve e)
      go (no n) = omega (arith, trailing_other n)

  pub most_count_le : (v : ℕ) → most_count kind v ≤ 2 * v
  most_count_le v = go (ℕ_discrete kind clause_kind)
    where
      go : Dec (kind ≡ clause_kind) → most_count kind v ≤ 2 * v
      go (yes e) = omega (arith, count-clause v e)
      go (no n) = omega (arith, count_other v n)
