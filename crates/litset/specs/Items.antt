-- The cells of a set follow from its members: their flags are set, and they stand from the first cell on.
use Rattle.std.specs.Prelude.{ℕ, suc, ◌+◌, ◌≡◌, refl, Bool, true, false, List, [], ◌∷◌, ◌++◌, length, get_or, set, drop}
use Rattle.std.proofs.Common.{arith, sym, ap, ◌∙◌, take-append-drop, set-set}
use Rattle.std.proofs.Math.Decide.{ℕ_discrete}
use Rattle.std.proofs.lemmas.List.Edits.{sets, sets-eq}
use Rattle.std.proofs.lemmas.List.{set-get_or}
use Rattle.model.specs.Final.{mem, insert}
use Rattle.litset.specs.View.{Members, inserted, flagged, with_items, flag, Sound}
use Rattle.litset.specs.Mem.{mem_head, mem-tail, insert_old, insert_new}
use Rattle.litset.specs.Laws.{inserted_member, inserted_last, same_members}

flagged_last : (fs ls : List ℕ) (l : ℕ) → flagged fs (ls ++ (l ∷ [])) ≡ set (flagged fs ls) l 1
unfolding flagged
flagged_last fs [] l = refl
flagged_last fs (k ∷ ls) l = flagged_last (set fs k 1) ls l

sets_last : (cells : List ℕ) (i : ℕ) (ls : List ℕ) (l : ℕ) → sets cells i (ls ++ (l ∷ [])) ≡ set (sets cells i ls) (i + length ls) l
sets_last cells i [] l = ap (λ (k : ℕ). set cells k l) (omega arith)
sets_last cells i (k ∷ ls) l = sets_last (set cells i k) (suc i) ls l ∙ ap (λ (j : ℕ). set (sets (set cells i k) (suc i) ls) j l) (omega arith)

-- one member more
pub inserted_with : (s : Members) (c : List ℕ) (l : ℕ) → inserted (with_items s c) l ≡ with_items s (insert c l)
inserted_with s c l = go (mem l c) refl
  where
    go : (b : Bool) → mem l c ≡ b → inserted (with_items s c) l ≡ with_items s (insert c l)
    go true e = inserted_member (with_items s c) l e ∙ ap (with_items s) (sym (insert_old c l e))
    go false e =
        inserted_last (with_items s c) l e
        ∙ same_members (sym (insert_new c l e)) (sym (flagged_last s.flag_cells c l) ∙ ap (flagged s.flag_cells) (sym (insert_new c l e)))
        (ap (λ (k : ℕ). set (sets s.item_cells 0 c) k l) (omega arith) ∙ sym (sets_last s.item_cells 0 c l) ∙ ap (sets s.item_cells 0) (sym (insert_new c l e)))

-- members that were put in before
pub with_items_again : (s : Members) (l : ℕ) (ls : List ℕ) → with_items (with_items s (l ∷ [])) (l ∷ ls) ≡ with_items s (l ∷ ls)
unfolding flagged
with_items_again s l ls =
    same_members refl (ap (λ (fs : List ℕ). flagged fs ls) (set-set s.flag_cells l 1 1)) (ap (λ (cells : List ℕ). sets cells 1 ls) (set-set s.item_cells 0 l l))

flagged_same : (fs ls : List ℕ) → ((l : ℕ) → mem l ls ≡ true → get_or fs l 0 ≡ 1) → flagged fs ls ≡ fs
unfolding flagged
flagged_same fs [] e = refl
flagged_same fs (k ∷ ls) e =
    let first : set fs k 1 ≡ fs = ap (set fs k) (sym (e k (mem_head k k ls refl))) ∙ set-get_or fs k 0 in
    ap (λ (gs : List ℕ). flagged gs ls) first ∙ flagged_same fs ls (λ l m. go l m (ℕ_discrete l k))
  where
    go : (l : ℕ) → mem l ls ≡ true → Dec (l ≡ k) → get_or fs l 0 ≡ 1
    go l m (yes q) = e l (mem_head l k ls q)
    go l m (no q) = e l (mem-tail l k ls q ∙ m)

-- the set with no member
pub with_items_none : (s : Members) → s.items ≡ [] → with_items s [] ≡ s
unfolding flagged
with_items_none s e = same_members (sym e) refl refl

-- the set with its own members
pub with_items_same : (s : Members) → Sound s → with_items s s.items ≡ s
with_items_same s r =
    same_members refl
    (flagged_same s.flag_cells s.items (λ l m. r.marks l ∙ ap flag m))
    (sets-eq s.items s.item_cells 0 (omega (arith, r.fits))
    ∙ ap (λ (k : ℕ). s.items ++ drop k s.item_cells) (omega arith)
    ∙ ap (λ (xs : List ℕ). xs ++ drop (length s.items) s.item_cells) r.first
    ∙ take-append-drop (length s.items) s.item_cells)
