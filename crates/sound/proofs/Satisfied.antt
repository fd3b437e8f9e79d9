-- A row of the laws that satisfies clauses is the book's model of them; so what the clauses learnt and taken refute follows from those taken.
use Rattle.std.specs.Prelude.{◌≡◌, List, [], ◌++◌, ℕ, ◌*◌, ◌<◌, length, T}
use mathlib.Core.List.Memᴰ.{not-nil}
use Rattle.std.proofs.Common.{arith}
use Rattle.model.specs.Book.{any, holds, is_model, Follows, NoModel}
use Rattle.lawbase.specs.Basics.{Every, var_range}
use Rattle.lawbase.specs.Sem.{Sat, Models, Rup, Log, rup_follows, log_models}
use Rattle.book.specs.Booleans.{every_all, some_any}
use Rattle.sound.specs.Rows.{row_of}
use Rattle.sound.proofs.Rows.{sat_holds, row_length, row_small, model_models}

-- ---- clauses

pub sat-any : (n : ℕ) (row C : List ℕ) → length row ≡ n → Every (λ l. l < 2 * n) C → Sat (row_of row) C → T (any (holds row) C)
sat-any n row C e r k = some_any (holds row) k.1 (sat_holds row k.0 (omega (arith, var_range k.0 n (r k.0 k.1))) k.2)

pub models_model : (n : ℕ) (row : List ℕ) (F : List (List ℕ)) → length row ≡ n → Every (λ C. Every (λ l. l < 2 * n) C) F → Models (row_of row) F
    → T (is_model row F)
unfolding is_model
models_model n row F e r m = every_all (any (holds row)) F (λ C i. sat-any n row C e (r C i) (m C i))

-- ---- what the clauses learnt and taken refute follows from those taken

module _ (n : ℕ) (taken log : List (List ℕ)) (g : Log taken log) where
  pub rup_taken : (C : List ℕ) → Rup (log ++ taken) C → Every (λ l. l < 2 * n) C → Follows n taken C
  rup_taken C u r row x m =
      sat-any n row C (row_length n row x) r
      (rup_follows (log ++ taken) C u (row_of row) (row_small n row x)
      (log_models taken log g (row_of row) (row_small n row x) (model_models row taken m)))

  pub rup_none : Rup (log ++ taken) [] → Follows n taken []
  rup_none u = rup_taken [] u (λ l i. absurd (not-nil i))

  pub rup_no_model : Rup (log ++ taken) [] → NoModel n taken
  unfolding any
  rup_no_model u row x m = rup_none u row x m
