-- What comes of one watch: the outcomes of `look`, as cases with their facts.
use Rattle.std.specs.Prelude.{◌≡◌, ◌⊎◌, true, false, List, ◌∷◌, ℕ, ◌+◌, ◌<◌, length, get_or, set}
use Rattle.std.specs.Prelude.{Option, None as none, Some as some}
use Rattle.model.specs.Lit.{neg, is_true, is_false}
use Rattle.model.specs.State.{Watch, State, with_clauses, with_watches, with_vars}
use Rattle.model.specs.Store.{push_watch}
use Rattle.model.specs.Trail.{unchecked_enqueue}
use Rattle.model.specs.Propagate.{false_second, Looked, stays, goes, false_clause}
use Rattle.lawbase.specs.Basics.{Every}
use Rattle.watching.specs.Permuted.{Permuted}

-- ---- the false literal second

-- the clause c is the stored one with its false literal f second
pub record Seconded (f : ℕ) (c : List ℕ) : Type 0 where
  pub first : ℕ
  pub rest : List ℕ
  pub shape : false_second f c ≡ first ∷ f ∷ rest
  pub permuted : Permuted c (first ∷ f ∷ rest)
  -- either f was second, and nothing moves, or it was first
  pub moved : (c ≡ first ∷ f ∷ rest) ⊎ (c ≡ f ∷ first ∷ rest)

-- ---- the first literal that is not false

pub data Found (values : List ℕ) (k : ℕ) (ls : List ℕ) : Option ℕ → Type 0 where
  nowhere : Every (λ l. is_false values l ≡ true) ls → Found values k ls none
  at_place : (i j : ℕ) → i ≡ k + j → j < length ls → is_false values (get_or ls j 0) ≡ false → Found values k ls (some i)

-- ---- the outcomes

-- the state with d as the clause at cr
abbrev pub put : State → ℕ → List ℕ → State
put s cr d = with_clauses s (set s.store.clauses cr d)

abbrev pub blocked_by : Watch → ℕ → Watch
blocked_by w a = record { clause = w.clause; blocker = a }

-- the clause is looked at as a ∷ neg p ∷ r
pub data Outcome (p : ℕ) (w : Watch) (s : State) (a : ℕ) (r : List ℕ) : Looked → Type 0 where
  blocker_true : is_true s.vars.values w.blocker ≡ true → Outcome p w s a r (stays w s)
  first_true : is_true s.vars.values a ≡ true → Outcome p w s a r (stays (blocked_by w a) (put s w.clause (a ∷ neg p ∷ r)))
  new_found : (j : ℕ) → j < length r → is_true s.vars.values a ≡ false → is_false s.vars.values (get_or r j 0) ≡ false
      → Outcome p w s a r
      (goes
      (with_watches (put s w.clause (a ∷ get_or r j 0 ∷ set r j (neg p))) (push_watch s.store.watches (neg (get_or r j 0)) (blocked_by w a))))
  all_false : Every (λ l. is_false s.vars.values l ≡ true) r → is_false s.vars.values a ≡ true
      → Outcome p w s a r (false_clause (blocked_by w a) (put s w.clause (a ∷ neg p ∷ r)))
  unit : Every (λ l. is_false s.vars.values l ≡ true) r → is_true s.vars.values a ≡ false → is_false s.vars.values a ≡ false
      → Outcome p w s a r (stays (blocked_by w a) (with_vars (put s w.clause (a ∷ neg p ∷ r)) (unchecked_enqueue s.vars a w.clause)))
