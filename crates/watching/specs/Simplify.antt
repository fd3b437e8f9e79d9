-- What `simplify` keeps of a sorted clause.
use Rattle.std.specs.Prelude.{◌≡◌, ◌⊎◌, true, false, List, [], ◌++◌, ℕ, ◌≤◌}
use Rattle.std.specs.Prelude.{Option, None as none, Some as some}
use Rattle.model.specs.Lit.{var, neg, undef_lit, is_true, is_false}
use Rattle.lawbase.specs.Basics.{◌∈◌, Every}
use Rattle.lawbase.specs.WellFormed.{Distinct}

-- ---- what is kept

-- a literal has no value
abbrev pub Valueless : List ℕ → ℕ → Type 0
Valueless values l = (is_true values l ≡ false) × (is_false values l ≡ false)

-- the literals kept so far: unset, of different variables, the last one of the highest
pub record Kept (values : List ℕ) (last : ℕ) (kept : List ℕ) : Type 0 where
  pub unset : Every (Valueless values) kept
  pub distinct : Distinct kept
  pub highest : Every (λ x. var x ≤ var last) kept
  -- before the first there is Lit::UNDEF
  pub end : (last ∈ kept) ⊎ ((kept ≡ []) × (last ≡ undef_lit))

-- what becomes of the literals ls behind those kept
pub data Simplified (values kept ls : List ℕ) : Option (List ℕ) → Type 0 where
  -- one is true, or its negation is there too
  dropped : (x : ℕ) → x ∈ ls → (is_true values x ≡ true) ⊎ (neg x ∈ (kept ++ ls)) → Simplified values kept ls none
  -- those that are left are among them, and what is not left is false
  simplified : (k : List ℕ) → Every (Valueless values) k → Distinct k → Every (λ x. x ∈ k) kept → Every (λ x. x ∈ (kept ++ ls)) k
      → Every (λ x. (x ∈ k) ⊎ (is_false values x ≡ true)) ls → Simplified values kept ls (some k)
