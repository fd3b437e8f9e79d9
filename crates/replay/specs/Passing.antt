-- A vector passes exactly when the run over noise is what it wants: the answer, and every cell of the three slices.
use Rattle.std.specs.Prelude.{◌≡◌, ℕ, zero, suc, true, ◌&&◌, T, List, ◌++◌, drop, replicate, ◌==◌, refl, Float}
use Rattle.std.proofs.Common.{sym, ap, subst, eq-eqb, eqb-true}
use Rattle.model.specs.State.{f64_zero}
use Rattle.model.specs.Script.{header}
use Rattle.model.specs.Run.{Answer, turned_back, ran, After, after}
use Rattle.script.specs.Sound.{and_left, and_right}
use Rattle.engine.specs.Answering.{after_cases}
use Rattle.replay.specs.Cells.{noise_cells, noise_floats, float, same, same_floats}
use Rattle.replay.specs.Exact.{Each, each_append, each_drop, each_replicate, same_exact, same_self, Known, floats_exact, floats_self, known-float, known-noise, zero-float}
use Rattle.replay.specs.Vector.{same_answer, agrees, wanted, passes}
use Rattle.replay.specs.VectorLaws.{made}

answers_exact : (x y : Answer) → same_answer x y ≡ true → x ≡ y
unfolding same_answer
answers_exact (turned_back n p) (turned_back m q) e =
    let f : n ≡ m = eqb-true n m (and_left (n == m) (p == q) e) in
    let g : p ≡ q = eqb-true p q (and_right (n == m) (p == q) e) in
    rw (f, g)
answers_exact (turned_back n p) (ran m) e = absurd (subst T (sym e) tt)
answers_exact (ran n) (turned_back m q) e = absurd (subst T (sym e) tt)
answers_exact (ran n) (ran m) e = ap ran (eqb-true n m e)

answer_self : (x : Answer) → same_answer x x ≡ true
unfolding same_answer
answer_self (turned_back n p) = rw (eq-eqb n n refl, eq-eqb p p refl)
answer_self (ran n) = eq-eqb n n refl

agrees_exact : (x y : After) → Each Known x.activities → Each Known y.activities → agrees x y ≡ true → x ≡ y
unfolding agrees
agrees_exact x y h g e =
    let a = same_answer x.answer y.answer in
    let b = same x.work y.work in
    let c = same_floats x.activities y.activities in
    let d = same x.out y.out in
    let e₁ : (b && (c && d)) ≡ true = and_right a (b && (c && d)) e in
    let e₂ : (c && d) ≡ true = and_right b (c && d) e₁ in
    sym
    (made y x.answer x.work x.activities x.out (answers_exact x.answer y.answer (and_left a (b && (c && d)) e))
    (same_exact x.work y.work (and_left b (c && d) e₁)) (floats_exact x.activities y.activities h g (and_left c d e₂))
    (same_exact x.out y.out (and_right c d e₂)))

agrees_self : (x : After) → Each Known x.activities → agrees x x ≡ true
unfolding agrees
agrees_self x h = rw (agrees, answer_self x.answer, same_self x.work, floats_self x.activities h, same_self x.out)

-- ---- no activity is a NaN

known-cleared : (v n : ℕ) (x : Float) → Known x → Each Known (replicate v x ++ drop v (noise_floats n))
known-cleared v n x h = each_append Known (replicate v x) (drop v (noise_floats n)) (each_replicate Known v x h) (each_drop Known v (noise_floats n) (known-noise n))

known_after : (s w : List ℕ) (n : ℕ) (o : List ℕ) → Each Known (after s w (noise_floats n) o).activities
known_after s w n o =
    after_cases (λ (x : After). Each Known x.activities) s w (noise_floats n) o (λ e. known-noise n) (λ number place e. known-noise n)
    (λ cfg rs e. known-cleared cfg.variables n f64_zero (subst Known (sym zero-float) (known-float 0)))

known-wanted : (s : List ℕ) (refusal place : ℕ) (cells : List ℕ) (w a o : ℕ) → Each Known (wanted s refusal place cells w a o).activities
unfolding wanted
known-wanted s zero place cells w a o = known-cleared (header s).variables a (float 0) (known-float 0)
known-wanted s (suc n) place cells w a o = known-noise a

-- ---- the claim, both ways

module _ (s : List ℕ) (refusal place : ℕ) (cells : List ℕ) (w a o : ℕ) where
  pub passing_exact : passes s refusal place cells w a o ≡ true → after s (noise_cells w) (noise_floats a) (noise_cells o) ≡ wanted s refusal place cells w a o
  unfolding passes
  passing_exact e =
      agrees_exact (after s (noise_cells w) (noise_floats a) (noise_cells o)) (wanted s refusal place cells w a o) (known_after s (noise_cells w) a (noise_cells o))
      (known-wanted s refusal place cells w a o) e

  pub exact_passing : after s (noise_cells w) (noise_floats a) (noise_cells o) ≡ wanted s refusal place cells w a o → passes s refusal place cells w a o ≡ true
  unfolding passes
  exact_passing e = rw e (agrees_self (wanted s refusal place cells w a o) (known-wanted s refusal place cells w a o))
