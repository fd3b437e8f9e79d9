-- The literals of a reason above level 0 are marked, one by one.
use Rattle.std.specs.Prelude.{ℕ, suc, ◌+◌, ◌≤◌, ◌<◌, ◌≡◌, refl, List, [], ◌∷◌, length, get_or, drop, set}
use Rattle.std.proofs.Common.{arith, add-one, sym, ap, ◌∙◌, length-set, drop_of_length-le, drop-cons, eq-eqb, ne_eqb}
use Rattle.model.specs.Lit.{var}
use Rattle.model.specs.State.{VarState, level_lit}
use Rattle.model.specs.Final.{mark}

module _ (vs : VarState) where
  mark_low : (q : ℕ) (qs m : List ℕ) → level_lit vs q ≡ 0 → mark vs (q ∷ qs) m ≡ mark vs qs m
  unfolding mark
  mark_low q qs m e = rw (eq-eqb (level_lit vs q) 0 e, mark)

  mark_high : (q : ℕ) (qs m : List ℕ) → 0 < level_lit vs q → mark vs (q ∷ qs) m ≡ mark vs qs (set m (var q) 1)
  unfolding mark
  mark_high q qs m h = rw (ne_eqb (level_lit vs q) 0 (λ e. omega arith), mark)

  mark_none : (m : List ℕ) → mark vs [] m ≡ m
  unfolding mark
  mark_none m = refl

-- of the literals `part`, the first i are marked
pub record Marking (vs : VarState) (part m₀ : List ℕ) (i : ℕ) (m : List ℕ) : Type 0 where
  pub sized : length m ≡ length m₀
  pub rest : mark vs (drop i part) m ≡ mark vs part m₀

module _ {vs : VarState} {part m₀ : List ℕ} {i : ℕ} {m : List ℕ} (k : Marking vs part m₀ i m) where
  module _ (h : i < length part) where
    pub marking_low : level_lit vs (get_or part i 0) ≡ 0 → Marking vs part m₀ (i + 1) m
    marking_low e =
        record {
          sized = k.sized;
          rest = rw add-one
              (sym (mark_low vs (get_or part i 0) (drop (suc i) part) m e) ∙ ap (λ (l : List ℕ). mark vs l m) (sym (drop-cons part i 0 h)) ∙ k.rest);
        }

    pub marking_high : 0 < level_lit vs (get_or part i 0) → Marking vs part m₀ (i + 1) (set m (var (get_or part i 0)) 1)
    marking_high e =
        record {
          sized = length-set m _ 1 ∙ k.sized;
          rest = rw add-one
              (sym (mark_high vs (get_or part i 0) (drop (suc i) part) m e) ∙ ap (λ (l : List ℕ). mark vs l m) (sym (drop-cons part i 0 h)) ∙ k.rest);
        }

  pub marking_ends : length part ≤ i → m ≡ mark vs part m₀
  marking_ends h = sym (mark_none vs m) ∙ ap (λ (l : List ℕ). mark vs l m) (sym (drop_of_length-le part h)) ∙ k.rest
