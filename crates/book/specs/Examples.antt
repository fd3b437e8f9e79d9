-- The demand tried: it takes the answers of the definition to some dozen scripts, by computation, and refuses wrong answers.
use Rattle.std.specs.Prelude.{◌≡◌, refl, Bool, List, [], ◌∷◌, ℕ, T}
use mathlib.Core.List.Memᴰ.{head as here}
use mathlib.Core.List.Memᴰ.{tail as there}
use Rattle.std.proofs.Common.{arith}
use Rattle.model.specs.Script as Script
use Rattle.model.specs.Book as Book
use Rattle.model.specs.Book.{all, Demand3}
use Rattle.model.specs.Exec.{out}
use Rattle.lawbase.specs.Basics.{◌∈◌}
use Rattle.book.specs.Booleans.{all_every}
use Rattle.book.specs.Check as Check
use Rattle.book.specs.Check.{checks, shows}

-- all that the book computes with
unfoldable read : ℕ
unfolding Script.records Script.records_of Script.lead Script.limits Script.trailing Script.record_as Script.header Book.all Book.any Book.in_range_of Book.is_row Book.holds Book.is_model Book.is_common Book.has Book.same_literals Book.has_clause Book.same_clauses Book.fed Book.book_of Book.entry Book.answer_cells Book.taken_by Book.entries Book.cells_of Book.history Book.is_cause Check.rows Check.implies Check.follows? Check.no_model? Check.clause? Check.solve? Check.entry? Check.checks
read = 0

-- ---- right answers

-- P3, P5 to P10; document 01's example; a stopped solve, then its verdict; a clause answered 2; clauses that come after a FALSE under assumptions; a
-- solve that learns, and one that restarts
pub examples : List (List ℕ)
examples =
    (2 ∷ 8 ∷ 64 ∷ 2 ∷ 2 ∷ 100 ∷ 1 ∷ 0 ∷ 2 ∷ 0 ∷ 1 ∷ 2 ∷ 1 ∷ 2 ∷ 1 ∷ [])
    ∷ (2 ∷ 8 ∷ 64 ∷ 2 ∷ 2 ∷ 100 ∷ 1 ∷ 1 ∷ 0 ∷ 1 ∷ 1 ∷ 1 ∷ [])
    ∷ (1 ∷ 8 ∷ 64 ∷ 2 ∷ 2 ∷ 100 ∷ 2 ∷ 0 ∷ 0 ∷ 2 ∷ 0 ∷ 1 ∷ [])
    ∷ (2 ∷ 8 ∷ 64 ∷ 2 ∷ 2 ∷ 100 ∷ 1 ∷ 2 ∷ 0 ∷ 2 ∷ 1 ∷ 2 ∷ 0 ∷ 3 ∷ 1 ∷ 1 ∷ 1 ∷ 2 ∷ 0 ∷ 0 ∷ [])
    ∷ (1 ∷ 8 ∷ 64 ∷ 2 ∷ 2 ∷ 100 ∷ 2 ∷ 2 ∷ 0 ∷ 1 ∷ 1 ∷ [])
    ∷ (1 ∷ 8 ∷ 64 ∷ 2 ∷ 2 ∷ 100 ∷ 2 ∷ 2 ∷ 1 ∷ 0 ∷ 1 ∷ [])
    ∷ (2 ∷ 8 ∷ 64 ∷ 2 ∷ 2 ∷ 100 ∷ 1 ∷ 2 ∷ 0 ∷ 2 ∷ 1 ∷ 2 ∷ 1 ∷ 2 ∷ 2 ∷ 0 ∷ 9 ∷ 2 ∷ 1 ∷ 3 ∷ 9 ∷ [])
    ∷ (2 ∷ 8 ∷ 64 ∷ 2 ∷ 2 ∷ 100 ∷ 1 ∷ 2 ∷ 3 ∷ 0 ∷ 1 ∷ 2 ∷ 2 ∷ 0 ∷ 2 ∷ 0 ∷ 1 ∷ 2 ∷ 0 ∷ 1 ∷ [])
    ∷ (3 ∷ 1 ∷ 64 ∷ 2 ∷ 2 ∷ 100 ∷ 1 ∷ 2 ∷ 0 ∷ 2 ∷ 1 ∷ 1 ∷ 0 ∷ 2 ∷ 0 ∷ 9 ∷ 1 ∷ 2 ∷ 2 ∷ 4 ∷ 2 ∷ 2 ∷ 3 ∷ 5 ∷ 9 ∷ [])
    ∷ (1 ∷ 8 ∷ 64 ∷ 2 ∷ 2 ∷ 100 ∷ 1 ∷ 1 ∷ 1 ∷ 2 ∷ 1 ∷ 0 ∷ 1 ∷ 2 ∷ 0 ∷ 1 ∷ 1 ∷ 1 ∷ 0 ∷ 2 ∷ 0 ∷ 1 ∷ [])
    ∷ (3 ∷ 8 ∷ 5 ∷ 2 ∷ 2 ∷ 100 ∷ 1 ∷ 3 ∷ 2 ∷ 0 ∷ 5 ∷ 1 ∷ 2 ∷ 4 ∷ 2 ∷ 2 ∷ 0 ∷ 1 ∷ 2 ∷ 1 ∷ 0 ∷ 9 ∷ [])
    ∷ (2 ∷ 8 ∷ 64 ∷ 2 ∷ 2 ∷ 1 ∷ 1 ∷ 2 ∷ 0 ∷ 2 ∷ 1 ∷ 2 ∷ 0 ∷ 3 ∷ 1 ∷ 2 ∷ 1 ∷ 2 ∷ 2 ∷ 1 ∷ 3 ∷ 9 ∷ 1 ∷ 2 ∷ 1 ∷ 3 ∷ 2 ∷ 0 ∷ 9 ∷ [])
    ∷ []

tried : T (all (λ s. checks s (out s)) examples)
unfolding out read examples
tried = tt

pub takes : (script : List ℕ) → script ∈ examples → Demand3 script (out script)
takes script i = shows script (out script) (all_every (λ s. checks s (out s)) examples tried script i)

-- ---- wrong answers: V 1, the clauses [0] and [1] answered 1, and a solve

both_signs : List ℕ
both_signs = 1 ∷ 8 ∷ 64 ∷ 2 ∷ 2 ∷ 100 ∷ 1 ∷ 1 ∷ 0 ∷ 1 ∷ 1 ∷ 1 ∷ 2 ∷ 0 ∷ 5 ∷ []

-- TRUE to everything: the second clause is not true in the row
says_true : Demand3 both_signs (1 ∷ 1 ∷ 0 ∷ 0 ∷ 1 ∷ 0 ∷ []) → ⊥
unfolding read both_signs
says_true d = d.answers.true_shows _ (there (there (here refl))) refl

-- [0] answered 1 and not counted: the row has variable 0 false
not_counted : Demand3 (1 ∷ 8 ∷ 64 ∷ 2 ∷ 2 ∷ 100 ∷ 1 ∷ 1 ∷ 0 ∷ 2 ∷ 0 ∷ 5 ∷ []) (1 ∷ 0 ∷ 0 ∷ 1 ∷ 1 ∷ []) → ⊥
unfolding read
not_counted d = d.answers.true_shows _ (there (here refl)) refl

-- FALSE though the clauses have a model
says_false : Demand3 (1 ∷ 8 ∷ 64 ∷ 2 ∷ 2 ∷ 100 ∷ 1 ∷ 1 ∷ 0 ∷ 2 ∷ 0 ∷ 5 ∷ []) (1 ∷ 1 ∷ 0 ∷ 0 ∷ []) → ⊥
unfolding read
says_false d = d.answers.final_empty_only _ (there (here refl)) refl refl (0 ∷ []) tt tt

-- a clause answered 0 though there is a model
says_zero : Demand3 (1 ∷ 8 ∷ 64 ∷ 2 ∷ 2 ∷ 100 ∷ 1 ∷ 1 ∷ 0 ∷ []) (0 ∷ []) → ⊥
unfolding read
says_zero d = d.answers.clause_no_model _ (here refl) refl (0 ∷ []) tt tt

-- the first verdict repeated: TRUE without assumptions, then TRUE under a false one
repeats : Demand3 (1 ∷ 8 ∷ 64 ∷ 2 ∷ 2 ∷ 100 ∷ 1 ∷ 1 ∷ 0 ∷ 2 ∷ 0 ∷ 5 ∷ 2 ∷ 1 ∷ 1 ∷ 5 ∷ []) (1 ∷ 0 ∷ 0 ∷ 1 ∷ 0 ∷ 0 ∷ 0 ∷ 1 ∷ 0 ∷ []) → ⊥
unfolding read
repeats d = d.answers.true_shows _ (there (there (here refl))) refl

-- a final clause with the assumption's own sign
own_sign : Demand3 (1 ∷ 8 ∷ 64 ∷ 2 ∷ 2 ∷ 100 ∷ 1 ∷ 1 ∷ 0 ∷ 2 ∷ 1 ∷ 1 ∷ 5 ∷ []) (1 ∷ 1 ∷ 0 ∷ 1 ∷ 1 ∷ []) → ⊥
unfolding read
own_sign d = d.answers.final_negated _ (there (here refl)) refl

-- a final clause that does not follow: of the assumptions 1 and 3, the clauses refute the first alone
not_implied : Demand3 (2 ∷ 8 ∷ 64 ∷ 2 ∷ 2 ∷ 100 ∷ 1 ∷ 1 ∷ 0 ∷ 2 ∷ 2 ∷ 1 ∷ 3 ∷ 5 ∷ []) (1 ∷ 1 ∷ 0 ∷ 1 ∷ 2 ∷ []) → ⊥
unfolding read
not_implied d = d.answers.final_follows _ (there (here refl)) refl (0 ∷ 1 ∷ []) tt tt

-- a cell too many
too_many : Demand3 (1 ∷ 8 ∷ 64 ∷ 2 ∷ 2 ∷ 100 ∷ 1 ∷ 1 ∷ 0 ∷ []) (1 ∷ 7 ∷ []) → ⊥
unfolding read
too_many d =
    let e : ◌≡◌ {A = ℕ} 1 2 = d.answers.whole in
    omega arith
