-- Rule 3 as published: from the false clause, resolve with the reasons of the conflict level's literals, from the newest back, until one literal of
-- that level is left. A clause is a list of literals here, whatever their order; literals of level 0 are left out.
use Rattle.std.specs.Prelude.{◌≡◌, refl, Bool, true, List, [], ◌∷◌, ℕ, ◌<◌, get_or, drop}
use mathlib.Core.List.Memᴰ.{append_right as in_right}
use mathlib.Core.List.Memᴰ.{head as here}
use mathlib.Core.List.Memᴰ.{tail as there}
use Rattle.std.proofs.Common.{arith}
use Rattle.model.specs.Lit.{neg}
use Rattle.model.specs.State.{Store, VarState, level_lit, reason_lit, clause_at, reason_rest}
use Rattle.lawbase.specs.Basics.{◌∈◌, every_nil, split, same?, less?, in_tail, neg-neg, var-neg}
use Rattle.lawbase.specs.Sem.{Respects}
use Rattle.lawbase.specs.WellFormed.{Implies}
use Rattle.learning.proofs.Trail.{get_or_in, index_in, from_reverse}
use Rattle.learning.specs.FirstUip.{Knows, Refutes, Conflict, Resolves, start, step}

-- ---- soundness: a set that respects the stored clauses, and holds level 0, falsifies none of these clauses

-- a literal that is false at level 0, or else known to be false
pub fixed_or : (S : ℕ → Bool) (st : Store) (vs : VarState) → Knows S st vs → (q : ℕ) → neg q ∈ vs.trail → (0 < level_lit vs q → S (neg q) ≡ true)
    → S (neg q) ≡ true
fixed_or S st vs k q i f = split (less? 0 (level_lit vs q)) f (λ z. k.fixed (neg q) i (rw var-neg (omega arith)))

-- what follows by a reason: S holds p if it falsifies the rest
pub follows : (S : ℕ → Bool) (st : Store) (vs : VarState) → Knows S st vs → (p : ℕ) (before : List ℕ) → Implies st.clauses (reason_lit vs p) p before
    → Refutes S (reason_rest st vs p) → S p ≡ true
follows S st vs k p before w h = go (clause_at st (reason_lit vs p)) (k.stored _ (index_in st.clauses (reason_lit vs p) [] w.stored)) w.first h
  where
    go : (c : List ℕ) → Respects S c → get_or c 0 0 ≡ p → Refutes S (drop 1 c) → S p ≡ true
    go [] r e f = absurd (r.clash (every_nil (λ m. S (neg m) ≡ true)))
    go (x ∷ c) r e f = rw (← e) (r.unit x (here refl) (λ m i ne. f m (in_tail i ne)))

pub resolves_sound : (S : ℕ → Bool) (n : ℕ) (st : Store) (vs : VarState) (confl : ℕ) → Conflict n st vs confl → Knows S st vs → {C : List ℕ}
    → Resolves st vs confl C → Refutes S C → ⊥
resolves_sound S n st vs confl w k (start a b) h =
    (k.stored (clause_at st confl) (get_or_in st.clauses confl w.top.1)).clash
    (λ q i. fixed_or S st vs k q (w.falsified q i) (λ z. h q (a q i z)))
resolves_sound S n st vs confl w k (step {C = C} {D = D} {p = p} r two new top nr im res) h =
    resolves_sound S n st vs confl w k r (λ q i. split (same? q (neg p))
    (λ e. rw (e, neg-neg) (follows S st vs k p new.older im
    (λ x j. fixed_or S st vs k x (from_reverse vs.trail (rw new.trail (in_right new.newer (there (im.false_rest x j)))))
    (λ z. h x (res.added x j z)))))
    (λ ne. h q (res.kept q i ne)))
