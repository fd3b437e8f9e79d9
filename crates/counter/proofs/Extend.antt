-- The helpers' values: column j of row i is true where more than j of the first i + 1 literals are.
use Rattle.std.specs.Prelude.{ℕ, suc, ◌+◌, ◌-◌, ◌*◌, ◌/◌, ◌%◌, ◌≤◌, ◌<◌, Bool, List, [], ◌∷◌, ◌++◌, length, take}
use native.Mathlib.Omega.{arith}
use Rattle.std.proofs.Math.Nat.{add-mul-div_right, add-mul-mod_self_right, div-eq_of_lt}
use Rattle.std.proofs.Common.{mod-eq_of_lt, mul-le-mul_right, suc-mul, sym, ◌∙◌, subst, inl, inr, true≢false, append_assoc, length-append, take_at}
use Rattle.std.proofs.Math.Path.{◌≡◌, refl, ap}
use Rattle.std.proofs.Math.Bool.{true, false}
use mathlib.Core.List.Memᴰ.{head as here}
use Rattle.std.proofs.Math.Dec.{eqb, ltb}
use borrow.Author.Tests.{lt-ltb, le-ltb}
use Rattle.model.specs.Lit.{var, sign}
use Rattle.lawbase.specs.Basics.{Every, shrink, split, on?}
use Rattle.lawbase.specs.WellFormed.{bit}
use Rattle.lawbase.specs.Sem.{Row, sat, Models}
use Rattle.counter.specs.Counter.{helper, counter}
use Rattle.counter.specs.Says.{trues}
use Rattle.counter.proofs.Says.{Counts, All, counter_models}
use Rattle.counter.specs.Extend.{Apart, extend, value, sign_of}

-- ---- values of literals

pub sat_at : (ρ ρ' : ℕ → ℕ) (l : ℕ) → ρ' (var l) ≡ ρ (var l) → sat ρ' l ≡ sat ρ l
unfolding sat
sat_at ρ ρ' l e = ap (λ (x : ℕ). eqb x (sign l)) e

pub same_trues : (ρ ρ' : ℕ → ℕ) (ls : List ℕ) → Every (λ l. ρ' (var l) ≡ ρ (var l)) ls → trues ρ' ls ≡ trues ρ ls
unfolding trues
same_trues ρ ρ' [] f = refl
same_trues ρ ρ' (l ∷ ls) f =
    let a : bit (sat ρ' l) ≡ bit (sat ρ l) = ap bit (sat_at ρ ρ' l (f l (here refl))) in
    omega (arith, a, same_trues ρ ρ' ls (shrink f))

trues-append : (ρ : ℕ → ℕ) (xs ys : List ℕ) → trues ρ (xs ++ ys) ≡ trues ρ xs + trues ρ ys
unfolding trues
trues-append ρ [] ys = omega arith
trues-append ρ (x ∷ xs) ys = omega (arith, trues-append ρ xs ys)

trues_one : (ρ : ℕ → ℕ) (x : ℕ) → trues ρ (x ∷ []) ≡ bit (sat ρ x)
unfolding trues
trues_one ρ x = omega arith

-- ---- the row with the helpers' values

module _ (k : ℕ) (some : 1 ≤ k) (first : ℕ) (ρ : ℕ → ℕ) (xs : List ℕ) where
  pub extend-apart : (v : ℕ) → Apart first ((length xs - 1) * k) v → extend k first ρ xs v ≡ ρ v
  unfolding extend
  extend-apart v (inl h) = rw (lt-ltb v first h, extend)
  extend-apart v (inr h) = split (on? (ltb v first))
      (λ e. rw (e, extend))
      (λ e. rw (e, le-ltb (v - first) ((length xs - 1) * k) (omega (arith, h)), extend))

  value_at : (d i j : ℕ) → d % k ≡ j → d / k ≡ i → value k ρ xs d ≡ sign_of (ltb j (trues ρ (take (suc i) xs)))
  unfolding value
  value_at d i j m q =
      ap (λ (x : ℕ). sign_of (ltb x (trues ρ (take (suc (d / k)) xs)))) m ∙ ap (λ (x : ℕ). sign_of (ltb j (trues ρ (take (suc x) xs)))) q

  extend_inside : (d : ℕ) → d < (length xs - 1) * k → extend k first ρ xs (first + d) ≡ value k ρ xs d
  unfolding extend
  extend_inside d h =
      let e : first + d - first ≡ d = omega arith in
      go (ltb (first + d) first) (le-ltb (first + d) first (omega arith)) (ltb (first + d - first) ((length xs - 1) * k))
      (ap (λ (x : ℕ). ltb x ((length xs - 1) * k)) e ∙ lt-ltb d ((length xs - 1) * k) h)
      ∙ ap (value k ρ xs) e
    where
      go : (a : Bool) → a ≡ false → (b : Bool) → b ≡ true
          → ◌≡◌ {A = ℕ} (elim a as (λ _. ℕ) [ true ↦ ρ (first + d) | false ↦ elim b as (λ _. ℕ) [ false ↦ ρ (first + d) | true ↦ value k ρ xs (first + d - first) ] ]) (value k ρ xs (first + d - first))
      go true p b q = absurd (true≢false p)
      go false p false q = absurd (true≢false (sym q))
      go false p true q = refl

  extend-helper : (i j : ℕ) → suc i < length xs → j < k → extend k first ρ xs (first + (j + i * k)) ≡ sign_of (ltb j (trues ρ (take (suc i) xs)))
  extend-helper i j hi hj =
      let small : j + i * k < (length xs - 1) * k = omega (arith, suc-mul i k, mul-le-mul_right {m = suc i} {n = length xs - 1} k (omega arith)) in
      let m : (j + i * k) % k ≡ j = add-mul-mod_self_right j i k ∙ mod-eq_of_lt {n = j} {m = k} hj in
      let q : (j + i * k) / k ≡ i = add-mul-div_right j i {z = k} (omega arith) ∙ omega (arith, div-eq_of_lt {n = j} {m = k} hj) in
      extend_inside (j + i * k) small ∙ value_at (j + i * k) i j m q

  module _ (r : Row ρ) where
    pub extend_row : Row (extend k first ρ xs)
    unfolding extend value sign_of
    extend_row v = go (ltb v first) (ltb (v - first) ((length xs - 1) * k)) (ltb ((v - first) % k) (trues ρ (take (suc ((v - first) / k)) xs)))
      where
        go : (a b c : Bool) → (elim a as (λ _. ℕ) [ true ↦ ρ v | false ↦ elim b as (λ _. ℕ) [ false ↦ ρ v | true ↦ elim c as (λ _. ℕ) [ true ↦ 0 | false ↦ 1 ] ] ]) < 2
        go true b c = r v
        go false false c = r v
        go false true true = omega arith
        go false true false = omega arith

    extend-counts : (i base : ℕ) → base ≡ first + i * k → suc i < length xs → Counts k some ρ (extend k first ρ xs) extend_row base (trues ρ (take (suc i) xs))
    unfolding sat helper sign_of
    extend-counts i base b hi j hj =
        let v : var (2 * (base + j)) ≡ first + (j + i * k) = omega (arith, b) in
        let s : sign (2 * (base + j)) ≡ 0 = omega arith in
        ap (λ (x : ℕ). eqb (extend k first ρ xs x) (sign (2 * (base + j)))) v
        ∙ ap (λ (x : ℕ). eqb (extend k first ρ xs (first + (j + i * k))) x) s
        ∙ ap (λ (x : ℕ). eqb x 0) (extend-helper i j hi hj)
        ∙ go (ltb j (trues ρ (take (suc i) xs)))
      where
        go : (b : Bool) → eqb (sign_of b) 0 ≡ b
        go true = refl
        go false = refl

    -- the rows behind a beginning of the literals
    extend-all : (ys pre : List ℕ) (i base : ℕ) → base ≡ first + i * k → xs ≡ pre ++ ys → length pre ≡ suc i
        → All k some ρ (extend k first ρ xs) extend_row base (trues ρ pre) ys
    extend-all [] pre i base b e h = tt
    extend-all (x ∷ []) pre i base b e h = here_counts x [] pre i base b e h
      where
        here_counts : (x : ℕ) (ys pre : List ℕ) (i base : ℕ) → base ≡ first + i * k → xs ≡ pre ++ (x ∷ ys) → length pre ≡ suc i
            → Counts k some ρ (extend k first ρ xs) extend_row base (trues ρ pre)
        here_counts x ys pre i base b e h =
            let t : take (suc i) xs ≡ pre = ap (take (suc i)) e ∙ take_at pre (x ∷ ys) (suc i) h in
            let l : suc i < length xs = omega (arith, ap length e, length-append pre (x ∷ ys), h) in
            subst (λ (z : List ℕ). Counts k some ρ (extend k first ρ xs) extend_row base (trues ρ z)) t (extend-counts i base b l)
    extend-all (x ∷ y ∷ ys) pre i base b e h =
        let t : take (suc i) xs ≡ pre = ap (take (suc i)) e ∙ take_at pre (x ∷ y ∷ ys) (suc i) h in
        let l : suc i < length xs = omega (arith, ap length e, length-append pre (x ∷ y ∷ ys), h) in
        let n : trues ρ (pre ++ (x ∷ [])) ≡ trues ρ pre + bit (sat ρ x) = trues-append ρ pre (x ∷ []) ∙ ap (λ (z : ℕ). trues ρ pre + z) (trues_one ρ x) in
        let next : base + k ≡ first + suc i * k = omega (arith, b, suc-mul i k) in (
          subst (λ (z : List ℕ). Counts k some ρ (extend k first ρ xs) extend_row base (trues ρ z)) t (extend-counts i base b l),
          subst (λ (p : ℕ). All k some ρ (extend k first ρ xs) extend_row (base + k) p (y ∷ ys)) n
              (extend-all (y ∷ ys) (pre ++ (x ∷ [])) (suc i) (base + k) next (e ∙ sym (append_assoc pre (x ∷ []) (y ∷ ys))) (omega (arith, h, length-append pre (x ∷ [])))),
        )

-- the row with the helpers' values is a model of the counter
pub extends : (k : ℕ) → 1 ≤ k → (first : ℕ) (ρ : ℕ → ℕ) → Row ρ → (x y : ℕ) (ys : List ℕ)
    → Every (λ l. Apart first ((length (x ∷ y ∷ ys) - 1) * k) (var l)) (x ∷ y ∷ ys) → trues ρ (x ∷ y ∷ ys) ≤ k
    → Models (extend k first ρ (x ∷ y ∷ ys)) (counter k first (x ∷ y ∷ ys))
extends k some first ρ r x y ys apart le =
    counter_models k some ρ (extend k first ρ (x ∷ y ∷ ys)) (extend_row k some first ρ (x ∷ y ∷ ys) r) first x y ys all_rows
    (λ l i. sat_at ρ (extend k first ρ (x ∷ y ∷ ys)) l (extend-apart k some first ρ (x ∷ y ∷ ys) (var l) (apart l i))) le
  where
    zero_row : first ≡ first + 0 * k
    zero_row = omega arith

    all_rows : All k some ρ (extend k first ρ (x ∷ y ∷ ys)) (extend_row k some first ρ (x ∷ y ∷ ys) r) first (bit (sat ρ x)) (y ∷ ys)
    all_rows =
        subst (λ (p : ℕ). All k some ρ (extend k first ρ (x ∷ y ∷ ys)) (extend_row k some first ρ (x ∷ y ∷ ys) r) first p (y ∷ ys)) (trues_one ρ x)
        (extend-all k some first ρ (x ∷ y ∷ ys) r (y ∷ ys) (x ∷ []) 0 first zero_row refl refl)
