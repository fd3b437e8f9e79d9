-- The cells of a solve's answer, as they are written.
use Rattle.std.specs.Prelude.{ℕ, ◌+◌, ◌≤◌, ◌≡◌, refl, List, [], ◌∷◌, length, set}
use Rattle.std.proofs.Common.{arith, sym, ap, ◌∙◌, subst}
use Rattle.std.proofs.Math.Seq.{paste}
use Rattle.model.specs.Limits.{solve_besides}
use Rattle.model.specs.Search.{cells, answer_of}
use Rattle.state.specs.declared.State.{State}
use Rattle.search.specs.declared.Solver.{Solver}
use Rattle.search.specs.declared.Status.{Status}
use Rattle.search.specs.declared.Searched.{Searched}
use Rattle.search.specs.Held.{searched_of, Left, left_refuted}
use Rattle.answer.specs.Answered.{Put}

pub cells-put : (out out' : List ℕ) (n answer conflicts : ℕ) (body : List ℕ)
    → (out' ≡ paste out 0 (cells answer conflicts body) (3 + length body)) × (n ≡ 3 + length body) → Put (cells answer conflicts body) out out' n
unfolding cells
cells-put out out' n answer conflicts body k =
    let m : 3 + length body ≡ length (cells answer conflicts body) = omega arith in
    (k.0 ∙ ap (paste out 0 (cells answer conflicts body)) m, k.1 ∙ m)

-- ---- the answer by its status

module _ (x : Solver) (r : Searched) (out out' : List ℕ) (n : ℕ) where
  by_status : (t : Status) → r.status ≡ t → Put (answer_of (searched_of x (record { status = t; conflicts = r.conflicts }))) out out' n → Put (answer_of (searched_of x r)) out out' n
  by_status t e p = subst (λ (u : Status). Put (answer_of (searched_of x (record { status = u; conflicts = r.conflicts }))) out out' n) (sym e) p

  pub answers_true : r.status ≡ Status.True → (body : List ℕ) → body ≡ x.state.trail.vars.values
      → (out' ≡ paste out 0 (cells 0 r.conflicts body) (3 + length body)) × (n ≡ 3 + length body) → Put (answer_of (searched_of x r)) out out' n
  unfolding answer_of
  answers_true e body b k = by_status Status.True e (subst (λ (l : List ℕ). Put (cells 0 r.conflicts l) out out' n) b (cells-put out out' n 0 r.conflicts body k))

  pub answers_false : r.status ≡ Status.False → (body : List ℕ) → body ≡ x.state.finals.items
      → (out' ≡ paste out 0 (cells 1 r.conflicts body) (3 + length body)) × (n ≡ 3 + length body) → Put (answer_of (searched_of x r)) out out' n
  unfolding answer_of
  answers_false e body b k = by_status Status.False e (subst (λ (l : List ℕ). Put (cells 1 r.conflicts l) out out' n) b (cells-put out out' n 1 r.conflicts body k))

  pub answers-budget : r.status ≡ Status.Undef → (out' ≡ paste out 0 (cells 2 r.conflicts (1 ∷ [])) 4) × (n ≡ 4) → Put (answer_of (searched_of x r)) out out' n
  unfolding answer_of
  answers-budget e k = by_status Status.Undef e (cells-put out out' n 2 r.conflicts (1 ∷ []) k)

  pub answers_no_storage : r.status ≡ Status.NoStorage → (out' ≡ paste out 0 (cells 2 r.conflicts (2 ∷ [])) 4) × (n ≡ 4) → Put (answer_of (searched_of x r)) out out' n
  unfolding answer_of
  answers_no_storage e k = by_status Status.NoStorage e (cells-put out out' n 2 r.conflicts (2 ∷ []) k)

-- ---- the room for them

module _ (t : Status) (s : State) (l : Left t s) {n : ℕ} (room : s.config.vars + solve_besides ≤ n) where
  -- a body as long as a final clause
  pub final_fits : {body : List ℕ} → length s.finals.items ≤ length s.finals.item_cells → body ≡ s.finals.items → (3 + length body ≤ n) × (length body ≤ 4294967295)
  final_fits {body} f e =
      let z = (left_refuted t l).sized in
      (omega (arith, ap length e, f, z.members, room), omega (arith, ap length e, f, z.members, z.vars))

-- ---- a clause's cell

pub put_first : (out : List ℕ) (a : ℕ) → 1 ≤ length out → Put (a ∷ []) out (set out 0 a) 1
put_first [] a h = absurd (omega (arith, h))
put_first (x ∷ out) a h = (refl, refl)
