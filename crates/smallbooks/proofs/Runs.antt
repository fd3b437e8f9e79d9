-- No script that the program makes is refused: each set is solved.
use Rattle.std.specs.Prelude.{◌≡◌, refl, Bool, true, false, List, [], ◌∷◌, ℕ, zero, suc, ◌≤◌}
use Rattle.std.proofs.Common.{ap, sym, ◌∙◌, true≢false, arith}
use mathlib.Core.List.Memᴰ.{head as here}
use mathlib.Core.List.Memᴰ.{tail as there}
use Rattle.lawbase.specs.Basics.{Every, every_nil, split, on?}
use Rattle.model.specs.Script
use Rattle.model.specs.Script.{Reading, refused, accepted, read}
use Rattle.smallbooks.specs.Choose.{combinations, of_sizes}
use Rattle.smallbooks.specs.Books.{upward, literals, apart, filter, clauses, sets, header, record_of, records_of, solve_record, script}

-- a test that computes, over all sets of v variables
unfoldable taken : Reading → Bool
taken (refused number place) = false
taken (accepted cfg rs) = true

unfoldable all : {A : Type 0} → (A → Bool) → List A → Bool
all p [] = true
all p (x ∷ xs) = elim (p x) [ true ↦ all p xs | false ↦ false ]

unfoldable all_taken : ℕ → Bool
all_taken v = all (λ s. taken (read (script v s) 8352 3 10)) (sets v)

abbrev UptoThree : ℕ → Type 0
UptoThree v = (1 ≤ v) × (v ≤ 3)

computed : (v : ℕ) → UptoThree v → all_taken v ≡ true
unfolding taken all all_taken combinations of_sizes upward literals apart filter clauses sets header record_of records_of solve_record script Script.header Script.known Script.lead Script.most_count Script.limits Script.trailing Script.cost Script.record_as Script.kind_of Script.records Script.records_of Script.header_rows Script.work_needed Script.slice_rows Script.literal_rows Script.limit_rows Script.record_rows Script.out_needed Script.out_rows Script.judge Script.read
computed zero h = absurd (omega (arith, h.0))
computed (suc zero) h = refl
computed (suc (suc zero)) h = refl
computed (suc (suc (suc zero))) h = refl
computed (suc (suc (suc (suc v)))) h = absurd (omega (arith, h.1))

all_every : {A : Type 0} (p : A → Bool) (xs : List A) → all p xs ≡ true → Every (λ x. p x ≡ true) xs
unfolding all
all_every p [] e = every_nil (λ x. p x ≡ true)
all_every p (x ∷ xs) e = split (on? (p x)) (λ t. go (all_every p xs (rw (t, all) at e)) t) (λ f. absurd (true≢false (sym (rw (f, all) at e))))
  where
    go : Every (λ y. p y ≡ true) xs → p x ≡ true → Every (λ y. p y ≡ true) (x ∷ xs)
    go r t y (here q) = ap p q ∙ t
    go r t y (there i) = r y i

-- the script of each set is accepted, with the slices that a fresh run is lent
pub none_refused : (v : ℕ) → 1 ≤ v → v ≤ 3 → Every (λ s. (number place : ℕ) → read (script v s) 8352 3 10 ≡ refused number place → ⊥) (sets v)
unfolding taken all_taken
none_refused v a b s i number place e =
    true≢false (sym (all_every (λ u. taken (read (script v u) 8352 3 10)) (sets v) (computed v (a, b)) s i) ∙ ap taken e)
