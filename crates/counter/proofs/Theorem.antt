-- At most k: values of the literals extend to a model of the clauses if and only if at most k of the literals are true. Rows, and what holds in them, are the book's.
use Rattle.std.specs.Prelude.{ℕ, zero, suc, ◌+◌, ◌-◌, ◌*◌, ◌≤◌, ◌<◌, ◌≡◌, refl, Bool, true, false, List, [], ◌∷◌, length, get_or, T, eqb}
use Rattle.std.proofs.Common.{arith, ap, sym, ◌∙◌, subst}
use mathlib.Core.List.Memᴰ.{head as here}
use mathlib.Core.List.Memᴰ.{not-nil}
use Rattle.model.specs.Lit.{var, sign}
use Rattle.model.specs.Script.{clause_kind}
use Rattle.model.specs.Book.{holds, is_row, is_model}
use Rattle.lawbase.specs.Basics.{Every, every_nil, every_cons, shrink, var_range}
use Rattle.lawbase.specs.WellFormed.{bit}
use Rattle.lawbase.specs.Sem.{Row, sat, Models}
use Rattle.sound.specs.Rows.{row_of}
use Rattle.sound.proofs.Rows.{row_length, row_small, small_row, holds_sat, sat_holds, model_models}
use Rattle.sound.proofs.Satisfied.{models_model}
use Rattle.script.specs.Accepted.{LiteralsFit}
use Rattle.counter.specs.Counter.{at_most, counter, negations, helpers}
use Rattle.counter.specs.Says.{trues}
use Rattle.counter.proofs.Says.{trues_le, negations_none, none_negations, counter_most}
use Rattle.counter.specs.Extend.{Apart, extend}
use Rattle.counter.proofs.Extend.{sat_at, extend_row, extend-apart, extends}
use Rattle.counter.specs.Ranges.{Fit}
use Rattle.counter.proofs.Ranges.{at_most_cases, at_most_fits, helpers_some, two_or_more}
use Rattle.counter.specs.Theorem.{true_in, listed, SameValues, Exactly}

-- ---- the book's count, and that of a row that is a function

holds_is_sat : (row : List ℕ) (l : ℕ) → var l < length row → holds row l ≡ sat (row_of row) l
holds_is_sat row l h = go (holds row l) refl (sat (row_of row) l) refl
  where
    go : (a : Bool) → holds row l ≡ a → (b : Bool) → sat (row_of row) l ≡ b → a ≡ b
    go true e true f = refl
    go false e false f = refl
    go true e false f = sym (holds_sat row l (subst T (sym e) tt)) ∙ f
    go false e true f = absurd (subst T e (sat_holds row l h f))

true_in-trues : (v : ℕ) (row ls : List ℕ) → length row ≡ v → Every (λ l. l < 2 * v) ls → true_in row ls ≡ trues (row_of row) ls
unfolding true_in trues
true_in-trues v row [] e h = refl
true_in-trues v row (l ∷ ls) e h =
    omega (arith, ap bit (holds_is_sat row l (omega (arith, e, var_range l v (h l (here refl))))), true_in-trues v row ls e (shrink h))

-- ---- a row that is a function, as a list

listed-length : (ρ : ℕ → ℕ) (i m : ℕ) → length (listed ρ i m) ≡ m
unfolding listed
listed-length ρ i zero = refl
listed-length ρ i (suc m) = ap suc (listed-length ρ (suc i) m)

listed_small : (ρ : ℕ → ℕ) → Row ρ → (i m : ℕ) → Every (λ x. x < 2) (listed ρ i m)
unfolding listed
listed_small ρ r i zero = every_nil (λ x. x < 2)
listed_small ρ r i (suc m) = every_cons (λ x. x < 2) (r i) (listed_small ρ r (suc i) m)

listed_at : (ρ : ℕ → ℕ) (i m x d : ℕ) → x < m → get_or (listed ρ i m) x d ≡ ρ (i + x)
unfolding listed
listed_at ρ i zero x d h = absurd (omega arith)
listed_at ρ i (suc m) zero d h = ap ρ (zero_more i)
  where
    zero_more : (i : ℕ) → i ≡ i + 0
    zero_more i = omega arith
listed_at ρ i (suc m) (suc x) d h = listed_at ρ (suc i) m x d (omega arith) ∙ ap ρ (moved i x)
  where
    moved : (i x : ℕ) → suc i + x ≡ i + suc x
    moved i x = omega arith

listed-sat : (ρ : ℕ → ℕ) (v l : ℕ) → l < 2 * v → sat (row_of (listed ρ 0 v)) l ≡ sat ρ l
listed-sat ρ v l h =
    sat_at ρ (row_of (listed ρ 0 v)) l (listed_at ρ 0 v (var l) 0 (var_range l v h) ∙ ap ρ (none (var l)))
  where
    none : (x : ℕ) → 0 + x ≡ x
    none x = omega arith

listed_models : (ρ : ℕ → ℕ) (v : ℕ) (cs : List (List ℕ)) → Every (LiteralsFit clause_kind v) cs → Models ρ cs → Models (row_of (listed ρ 0 v)) cs
listed_models ρ v cs f m c i =
    let k = m c i in
    (k.0, k.1, listed-sat ρ v k.0 ((f c i).literals k.0 k.1) ∙ k.2)

-- rows that give the literals the same values have the same count
counts_same : (row row' ls : List ℕ) → SameValues row row' ls → true_in row' ls ≡ true_in row ls
unfolding true_in holds
counts_same row row' [] s = refl
counts_same row row' (l ∷ ls) s =
    let a : bit (holds row' l) ≡ bit (holds row l) = ap (λ (x : ℕ). bit (eqb x (sign l))) (s l (here refl)) in
    omega (arith, a, counts_same row row' ls (shrink s))

-- ---- the theorem

module _ (v : ℕ) (ls : List ℕ) (k first : ℕ) (f : Fit v ls k first) where
  -- a model of the clauses has at most k of the literals true
  pub only : (row : List ℕ) → T (is_row v row) → T (is_model row (at_most k first ls)) → true_in row ls ≤ k
  only row h m =
      let e = true_in-trues v row ls (row_length v row h) f.in_range in
      at_most_cases (λ (cs : List (List ℕ)). Models (row_of row) cs → true_in row ls ≤ k) k first ls
      (λ z q. omega (arith, e, negations_none (row_of row) ls q))
      (λ some l q. omega (arith, e, counter_most (row_of row) k some first ls q))
      (λ l q. omega (arith, e, trues_le (row_of row) ls))
      (model_models row (at_most k first ls) m)

  -- a row with at most k of them true, as it is or with other values of the helpers alone
  pub record Extended (row row' : List ℕ) : Type 0 where
    pub is : T (is_row v row')
    pub same : (x : ℕ) → x < v → Apart first (helpers k (length ls)) x → get_or row' x 2 ≡ get_or row x 2
    pub model : T (is_model row' (at_most k first ls))

  itself : (row : List ℕ) → T (is_row v row) → (cs : List (List ℕ)) → Every (LiteralsFit clause_kind v) cs → Models (row_of row) cs → at_most k first ls ≡ cs → Extended row row
  itself row h cs g m e =
      record {
        is = h;
        same = λ x l a. refl;
        model = subst (λ (z : List (List ℕ)). T (is_model row z)) (sym e) (models_model v row cs (row_length v row h) (λ c i. (g c i).literals) m);
      }

  by_helpers : (row : List ℕ) → T (is_row v row) → 1 ≤ k → k < length ls → true_in row ls ≤ k → at_most k first ls ≡ counter k first ls
      → Extended row (listed (extend k first (row_of row) ls) 0 v)
  by_helpers row h some l le e =
      let ρ = row_of row in
      let ρ' = extend k first ρ ls in
      let n = helpers_some k (length ls) l in
      let r' = extend_row k some first ρ ls (row_small v row h) in
      let apart : Every (λ l. Apart first ((length ls - 1) * k) (var l)) ls = subst (λ (u : ℕ). Every (λ l. Apart first u (var l)) ls) n f.apart in
      let le' : trues ρ ls ≤ k = omega (arith, le, true_in-trues v row ls (row_length v row h) f.in_range) in
      let m : Models ρ' (counter k first ls) =
      two_or_more
      (λ (ls : List ℕ). Every (λ l. Apart first ((length ls - 1) * k) (var l)) ls → trues ρ ls ≤ k → Models (extend k first ρ ls) (counter k first ls))
      ls (omega arith) (λ x y ys. extends k some first ρ (row_small v row h) x y ys) apart le' in
      let g : Every (LiteralsFit clause_kind v) (counter k first ls) = subst (Every (LiteralsFit clause_kind v)) e (at_most_fits v ls k first f) in
      record {
        is = small_row v (listed ρ' 0 v) (listed-length ρ' 0 v) (listed_small ρ' r' 0 v);
        same = λ x b a.
            listed_at ρ' 0 v x 2 b ∙ ap ρ' (none x) ∙ extend-apart k some first ρ ls x (subst (λ (u : ℕ). Apart first u x) n a)
            ∙ there_too row x (omega (arith, b, row_length v row h));
        model = subst (λ (z : List (List ℕ)). T (is_model (listed ρ' 0 v) z)) (sym e)
            (models_model v (listed ρ' 0 v) (counter k first ls) (listed-length ρ' 0 v) (λ c i. (g c i).literals) (listed_models ρ' v (counter k first ls) g m));
      }
    where
      none : (x : ℕ) → 0 + x ≡ x
      none x = omega arith

      there_too : (row : List ℕ) (x : ℕ) → x < length row → get_or row x 0 ≡ get_or row x 2
      there_too [] x h = absurd (omega arith)
      there_too (y ∷ row) zero h = refl
      there_too (y ∷ row) (suc x) h = there_too row x (omega arith)

  pub extended : (row : List ℕ) → T (is_row v row) → true_in row ls ≤ k → (row' : List ℕ) × Extended row row'
  extended row h le =
      at_most_cases (λ (cs : List (List ℕ)). at_most k first ls ≡ cs → Every (LiteralsFit clause_kind v) cs → (row' : List ℕ) × Extended row row') k first ls
      (λ z e g.
      (row, itself row h (negations ls) g (none_negations (row_of row) (row_small v row h) ls (omega (arith, le, true_in-trues v row ls (row_length v row h) f.in_range))) e))
      (λ some l e g. (listed (extend k first (row_of row) ls) 0 v, by_helpers row h some l le e))
      (λ l e g. (row, itself row h [] g (λ c i. absurd (not-nil i)) e))
      refl
      (at_most_fits v ls k first f)

  pub exactly : Exactly v ls k first
  exactly row h = (
    (λ m. subst (λ (n : ℕ). n ≤ k) (counts_same row m.0 ls m.2) (only m.0 m.1 m.3)),
    (λ le.
        let x = extended row h le in
        (x.0, x.1.is, (λ l i. x.1.same (var l) (var_range l v (f.in_range l i)) (f.apart l i)), x.1.model)),
  )
