-- An accepted script: the parts of the slices that are the run's own.
use Rattle.std.specs.Prelude.{ℕ, ◌-◌, ◌≤◌, ◌≡◌, List, ◌++◌, length, take, drop, replicate}
use Rattle.std.proofs.Common.{arith, sym, ◌∙◌, subst, length-take-le}
use Rattle.std.proofs.Math.Path.{ap}
use Rattle.model.specs.Script.{header, work_needed}
use Rattle.model.specs.Script as Script
use Rattle.script.specs.Accepted.{Accepted}
use Rattle.script.specs.declared.Script as code
use Rattle.script.specs.Front as script
use Rattle.ends.specs.Bounds.{Limited}
use Rattle.laws.proofs.Run.{limited}
use Rattle.records.specs.Recording.{Lent}

module _ (s : code.Script) (work activities out : ℕ) (a : Accepted s.cells.now work activities out) where
  pub vars_fit : s.header.variables ≤ activities
  vars_fit = omega (arith, a.activities_fit, ap (λ (c : Script.Config). c.variables) s.of_header)

  pub lent : (n m : ℕ) → n ≡ work_needed (script.config_of s.header) → m ≡ s.header.variables → Lent s n m out
  lent n m f h =
      let v : s.header.variables ≡ (header s.cells.now).variables = ap (λ (c : Script.Config). c.variables) s.of_header in
      record {
        limited = subst Limited (sym s.of_header) (limited s.cells.now work activities out a);
        work = f;
        counted = h;
        literals = omega (arith, a.header_fits.literals, ap (λ (c : Script.Config). c.max_literals) s.of_header);
        records = rw v a.records_fit;
        fits = rw v a.out_fits;
      }

module _ {A : Type 0} (w : List A) (n : ℕ) (h : n ≤ length w) where
  pub part_length : length (take (n - 0) (drop 0 w)) ≡ n
  part_length = let z : n - 0 ≡ n = omega arith in ap (λ (k : ℕ). length (take k w)) z ∙ length-take-le n w h

  -- the first n cells are z, and the rest is as found
  pub part_filled : (m : ℕ) → n ≡ m → (ys : List A) (z : A) → ys ≡ replicate (length (take (n - 0) (drop 0 w))) z
      → take 0 w ++ (ys ++ drop (n - 0) (drop 0 w)) ≡ replicate m z ++ drop m w
  part_filled m f ys z e =
      let y : n - 0 ≡ m = omega (arith, f) in
      ap (λ (k : ℕ). ys ++ drop k w) y ∙ ap (λ (c : List A). c ++ drop m w) (e ∙ ap (λ (k : ℕ). replicate k z) (part_length ∙ f))
