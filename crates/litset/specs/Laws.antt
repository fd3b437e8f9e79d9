-- The stores of the code, seen as the set.
use Rattle.std.specs.Prelude.{ℕ, zero, suc, ◌+◌, ◌≤◌, ◌<◌, ◌≡◌, refl, ◌≢◌, Bool, true, false, List, [], ◌∷◌, ◌++◌, length, get_or, set, drop, replicate}
use Rattle.std.proofs.Common.{arith, sym, ap, ◌∙◌, add-one, length-set, drop-cons, get_or-set_same, get_or-set_other}
use Rattle.std.proofs.lemmas.List.{drop_all, get_or_past, ext_get_or, length-replicate, get_or-replicate}
use Rattle.std.proofs.Math.Decide.{ℕ_discrete, dec_lt}
use Rattle.model.specs.Final.{mem}
use Rattle.scratch.specs.Row.{Row, Sound as Listed}
use Rattle.litset.specs.View.{Members, new_cell, members, inserted, flag, Rep, Sound}
use Rattle.litset.specs.Mem.{mem_nil, mem-tail, mem_last, mem_other, mem_at, insert_old, insert_new}

-- ---- every cell shows

pub all_shown : (fs fs' : List ℕ) (r r' : Row) → members fs r ≡ members fs' r' → (fs ≡ fs') × (r ≡ r')
all_shown fs fs' r r' e = (ap (λ (s : Members). s.flag_cells) e, ap (λ (s : Members). record { items = s.items; cells = s.item_cells }) e)

flag-unset : (b : Bool) → flag b ≡ 0 → b ≡ false
flag-unset b e = grind arith

flag-set : (b : Bool) → flag b ≢ 0 → b ≡ true
flag-set b e = grind arith

pub is_sound : (flags : List ℕ) (r : Row) → Rep flags r.items → Listed r → Sound (members flags r)
is_sound flags r p l = record { fits = l.fits; first = l.first; marks = p.marks }

-- ---- insert

pub same_members : {a a' b b' c c' : List ℕ} → a ≡ a' → b ≡ b' → c ≡ c'
    → ◌≡◌ {A = Members} (record { items = a; flag_cells = b; item_cells = c }) (record { items = a'; flag_cells = b'; item_cells = c' })
same_members p q r = rw (p, q, r)

new_cell_old : (items : List ℕ) (l : ℕ) (cells : List ℕ) (i x : ℕ) → mem l items ≡ true → new_cell items l cells i x ≡ cells
unfolding new_cell
new_cell_old items l cells i x e = rw (e, new_cell)

new_cell_new : (items : List ℕ) (l : ℕ) (cells : List ℕ) (i x : ℕ) → mem l items ≡ false → new_cell items l cells i x ≡ set cells i x
unfolding new_cell
new_cell_new items l cells i x e = rw (e, new_cell)

module _ (s : Members) (l : ℕ) where
  pub inserted_member : mem l s.items ≡ true → inserted s l ≡ s
  inserted_member e =
      same_members (insert_old s.items l e) (new_cell_old s.items l s.flag_cells l 1 e)
      (new_cell_old s.items l s.item_cells (length s.items) l e)

  pub inserted_last : mem l s.items ≡ false
      → inserted s l ≡ record { items = s.items ++ (l ∷ []); flag_cells = set s.flag_cells l 1; item_cells = set s.item_cells (length s.items) l }
  inserted_last e =
      same_members (insert_new s.items l e) (new_cell_new s.items l s.flag_cells l 1 e)
      (new_cell_new s.items l s.item_cells (length s.items) l e)

module _ (flags items : List ℕ) (p : Rep flags items) (l : ℕ) where
  pub absent : get_or flags l 0 ≡ 0 → mem l items ≡ false
  absent e = grind (arith, p.marks l, flag-unset)

  pub present : get_or flags l 0 ≢ 0 → mem l items ≡ true
  present e = grind (arith, p.marks l, flag-set)

  pub inserted_new : l < length flags → Rep (set flags l 1) (items ++ (l ∷ []))
  inserted_new h = record { marks = λ k. go k (ℕ_discrete k l) }
    where
      go : (k : ℕ) → Dec (k ≡ l) → get_or (set flags l 1) k 0 ≡ flag (mem k (items ++ (l ∷ [])))
      go k (yes e) = rw e (get_or-set_same flags l 1 0 h ∙ sym (ap flag (mem_last l items)))
      go k (no e) = get_or-set_other flags l k 1 0 e ∙ p.marks k ∙ ap flag (sym (mem_other k l items e))

-- ---- no flag is set

module _ (flags : List ℕ) (z : (l : ℕ) → get_or flags l 0 ≡ 0) where
  pub none_set : Rep flags []
  none_set = record { marks = λ l. z l ∙ sym (ap flag (mem_nil l)) }

  pub none_shows : flags ≡ replicate (length flags) 0
  none_shows = ext_get_or 0 flags (replicate (length flags) 0) (sym (length-replicate _ 0)) (λ k h. z k ∙ sym (get_or-replicate _ k 0 0 h))

-- the flags that `new` leaves
pub no_flags : (n l : ℕ) → get_or {A = ℕ} (replicate n 0) l 0 ≡ 0
no_flags zero l = refl
no_flags (suc n) zero = refl
no_flags (suc n) (suc l) = no_flags n l

-- ---- clear

-- the flags of the first i members are taken back
pub record Clearing (flags members : List ℕ) (i : ℕ) : Type 0 where
  pub low : (k : ℕ) → k < length members → get_or members k 0 < length flags
  pub rest : (l : ℕ) → mem l (drop i members) ≡ false → get_or flags l 0 ≡ 0

module _ (flags items : List ℕ) where
  pub clearing_starts : Rep flags items → Clearing flags items 0
  clearing_starts p = record { low = λ k g. let x = get_or items k 0 in go x (mem_at items k g) (dec_lt x (length flags)); rest = λ l m. p.marks l ∙ ap flag m }
    where
      go : (x : ℕ) → mem x items ≡ true → Dec (x < length flags) → x < length flags
      go x m (yes g) = g
      go x m (no g) =
          let z : get_or flags x 0 ≡ 0 = get_or_past flags x 0 (omega arith) in
          let o : get_or flags x 0 ≡ 1 = p.marks x ∙ ap flag m in
          absurd (omega arith)

  module _ (i : ℕ) (c : Clearing flags items i) where
    pub clearing_more : i < length items → Clearing (set flags (get_or items i 0) 0) items (i + 1)
    clearing_more g = record { low = λ k h. rw length-set (c.low k h); rest = λ l m. go l (rw add-one at m) (ℕ_discrete l x) }
      where
        x : ℕ
        x = get_or items i 0

        go : (l : ℕ) → mem l (drop (suc i) items) ≡ false → Dec (l ≡ x) → get_or (set flags x 0) l 0 ≡ 0
        go l m (yes p) = rw p (get_or-set_same flags x 0 0 (c.low i g))
        go l m (no p) =
            let s : mem l (drop i items) ≡ mem l (drop (suc i) items) = rw (drop-cons items i 0 g) (mem-tail l x (drop (suc i) items) p) in
            get_or-set_other flags x l 0 0 p ∙ c.rest l (s ∙ m)

    pub clearing_ends : length items ≤ i → (l : ℕ) → get_or flags l 0 ≡ 0
    clearing_ends g l = c.rest l (rw (drop_all i items g) (mem_nil l))
