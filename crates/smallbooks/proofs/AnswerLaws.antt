-- The engine's answer, as a set's.
use Rattle.std.specs.Prelude.{ℕ, ◌+◌, ◌≡◌, List, get_or, Float, Result, Ok, Err, Some}
use Rattle.std.proofs.Common.{sym, ap, ◌∙◌}
use Rattle.model.specs.Run.{After, turned_back, ran, after}
use Rattle.engine.specs.Runs.{answer_of, Runs}
use Rattle.refusal.specs.declared.Refusal.{Refusal}
use Rattle.refusal.specs.Number.{number}
use Rattle.cells.specs.declared.Verdict.TheVariants.{Undef}
use Rattle.text.specs.Kinds.{verdict_of}
use Rattle.smallbooks.specs.Books.{found}

refused_found : (n : ℕ) (x : After) (number place : ℕ) → turned_back number place ≡ x.answer → record { verdict = Some Undef; conflicts = 0 } ≡ found n x
unfolding found
refused_found n x number place e = rw (← e, found)

ran_found : (n : ℕ) (x : After) (cells : ℕ) → ran cells ≡ x.answer → record { verdict = verdict_of (get_or x.out n 0); conflicts = get_or x.out (n + 1) 0 } ≡ found n x
unfolding found
ran_found n x cells e = rw (← e, found)

module _ {s w : List ℕ} {a : List Float} {o w' : List ℕ} {a' : List Float} {o' : List ℕ} {r : Result ℕ Refusal} (p : Runs s w a o r w' a' o') (n : ℕ) where
  pub found_refused : (f : Refusal) → r ≡ Err f → record { verdict = Some Undef; conflicts = 0 } ≡ found n (after s w a o)
  found_refused f e = refused_found n (after s w a o) (number f.rule) f.place (sym (ap answer_of e) ∙ p.answer)

  pub found_ran : (cells : ℕ) → r ≡ Ok cells → record { verdict = verdict_of (get_or o' n 0); conflicts = get_or o' (n + 1) 0 } ≡ found n (after s w a o)
  found_ran cells e =
      ap (λ (o'' : List ℕ). record { verdict = verdict_of (get_or o'' n 0); conflicts = get_or o'' (n + 1) 0 }) p.out
      ∙ ran_found n (after s w a o) cells (sym (ap answer_of e) ∙ p.answer)
