-- Records of two cells: reading and setting a cell of each kind.
use Rattle.std.specs.Prelude.{ℕ, zero, suc, ◌*◌, ◌≤◌, ◌<◌, ◌≡◌, refl, List, [], ◌∷◌, length, get_or, set, take, drop, map, flat_map}
use Rattle.std.specs.Simd.{first_chunks}
use Rattle.std.proofs.Common.{arith, sym, not-suc-le-zero, ap, ap₂, ◌∙◌, length-drop, length-take-le, take_at, drop_at}
use Rattle.std.proofs.Math.Decide.{ℕ_discrete}
use Rattle.std.proofs.Math.ListN.{length-map, length-set}
use Rattle.std.proofs.Math.Seq.{get_or-set_same, get_or-set_other, map-set_same}
use Rattle.std.proofs.lemmas.List.{map-set, get_or-map, ext_get_or}
use Rattle.watch.specs.View.{Cells, Watches, Paired, cells_of, with_link, with_note, shown}
use Rattle.watch.specs.declared.Size.{Size}

-- ---- a slice's records

pub length-first_chunks : (m : ℕ) (w : List ℕ) → length (first_chunks 2 m w) ≡ m
length-first_chunks zero w = refl
length-first_chunks (suc m) w = ap suc (length-first_chunks m (drop 2 w))

pub take-first_chunks : (k m : ℕ) (w : List ℕ) → k ≤ m → take k (first_chunks 2 m w) ≡ first_chunks 2 k w
take-first_chunks zero m w h = refl
take-first_chunks (suc k) zero w h = absurd (not-suc-le-zero h)
take-first_chunks (suc k) (suc m) w h = ap (λ (r : List (List ℕ)). take 2 w ∷ r) (take-first_chunks k m (drop 2 w) (omega arith))

pub chunks_paired : (m : ℕ) (w : List ℕ) → 2 * m ≤ length w → Paired (first_chunks 2 m w)
chunks_paired zero w h x g = absurd (not-suc-le-zero g)
chunks_paired (suc m) w h zero g = length-take-le 2 w (omega arith)
chunks_paired (suc m) w h (suc x) g = chunks_paired m (drop 2 w) (omega (arith, length-drop 2 w)) x (omega arith)

-- the cells of records of two, one after another, are these records again
pub chunks_flattened : (w : List (List ℕ)) → Paired w → first_chunks 2 (length w) (flat_map (λ r. r) w) ≡ w
chunks_flattened [] p = refl
chunks_flattened (r ∷ w) p =
    let two : length r ≡ 2 = p 0 (omega arith) in
    let rest : List ℕ = flat_map (λ r. r) w in
    ap₂ (λ (x : List ℕ) (xs : List (List ℕ)). x ∷ xs) (take_at r rest 2 two)
    (ap (first_chunks 2 (length w)) (drop_at r rest 2 two) ∙ chunks_flattened w (λ x h. p (suc x) (omega arith)))

-- ---- their cells

same_cells : {ls ls' ns ns' : List ℕ} → ls ≡ ls' → ns ≡ ns' → ◌≡◌ {A = Cells} (record { links = ls; notes = ns }) (record { links = ls'; notes = ns' })
same_cells el en = rw (el, en)

module _ (w : List (List ℕ)) where
  pub links_length : length (cells_of w).links ≡ length w
  unfolding cells_of
  links_length = length-map w (λ r. get_or r 0 0)

  pub notes_length : length (cells_of w).notes ≡ length w
  unfolding cells_of
  notes_length = length-map w (λ r. get_or r 1 0)

  -- a record of the cells is one of the slice
  pub link_low : (c : Cells) → cells_of w ≡ c → (x : ℕ) → x < length c.links → x < length w
  link_low c e x h = omega (arith, links_length, ap (λ (c : Cells). length c.links) e)

  pub note_low : (c : Cells) → cells_of w ≡ c → (x : ℕ) → x < length c.notes → x < length w
  note_low c e x h = omega (arith, notes_length, ap (λ (c : Cells). length c.notes) e)

  -- the cells of the records, one after another, hold what they held
  pub flattened_holds : (c : Cells) → Paired w → cells_of w ≡ c → (cs : List ℕ) → cs ≡ flat_map (λ r. r) w → cells_of (first_chunks 2 (length c.links) cs) ≡ c
  flattened_holds c p e cs f =
      let n : length c.links ≡ length w = sym (ap (λ (c : Cells). length c.links) e) ∙ links_length in
      rw (n, f, chunks_flattened w p) e

  module _ (x : ℕ) (h : x < length w) where
    pub link_get : get_or (get_or w x []) 0 0 ≡ get_or (cells_of w).links x 0
    unfolding cells_of
    link_get = sym (get_or-map (λ r. get_or r 0 0) w x [] 0 h)

    pub note_get : get_or (get_or w x []) 1 0 ≡ get_or (cells_of w).notes x 0
    unfolding cells_of
    note_get = sym (get_or-map (λ r. get_or r 1 0) w x [] 0 h)

    module _ (p : Paired w) (i v : ℕ) where
      pub set_paired : Paired (set w x (set (get_or w x []) i v))
      set_paired y g = go (ℕ_discrete y x)
        where
          go : Dec (y ≡ x) → length (get_or (set w x (set (get_or w x []) i v)) y []) ≡ 2
          go (yes e) = rw (e, get_or-set_same w x (set (get_or w x []) i v) [] h, length-set) (p x h)
          go (no e) = rw (get_or-set_other w x y (set (get_or w x []) i v) [] e) (p y (rw length-set at g))

    module _ (p : Paired w) (v : ℕ) where
      pub link_set : cells_of (set w x (set (get_or w x []) 0 v)) ≡ with_link x v (cells_of w)
      unfolding cells_of
      link_set =
          let r = get_or w x [] in
          same_cells (map-set (λ r. get_or r 0 0) w x (set r 0 v) ∙ ap (set (map (λ r. get_or r 0 0) w) x) (get_or-set_same r 0 v 0 (rw (p x h) (omega arith))))
          (map-set_same (λ r. get_or r 1 0) w x (set r 0 v) [] (get_or-set_other r 0 1 v 0 (omega arith)))

      pub note_set : cells_of (set w x (set (get_or w x []) 1 v)) ≡ with_note x v (cells_of w)
      unfolding cells_of
      note_set =
          let r = get_or w x [] in
          same_cells (map-set_same (λ r. get_or r 0 0) w x (set r 1 v) [] (get_or-set_other r 1 0 v 0 (omega arith)))
          (map-set (λ r. get_or r 1 0) w x (set r 1 v) ∙ ap (set (map (λ r. get_or r 1 0) w) x) (get_or-set_same r 1 v 0 (rw (p x h) (omega arith))))

-- ---- every cell shows

pair_same : {r r' : List ℕ} → length r ≡ 2 → length r' ≡ 2 → get_or r 0 0 ≡ get_or r' 0 0 → get_or r 1 0 ≡ get_or r' 1 0 → r ≡ r'
pair_same {r} {r'} l l' e f = ext_get_or 0 r r' (l ∙ sym l') cell
  where
    cell : (v : ℕ) → v < length r → get_or r v 0 ≡ get_or r' v 0
    cell zero h = e
    cell (suc zero) h = f
    cell (suc (suc v)) h = absurd (omega (arith, l))

-- records of two cells with the same links and notes are the same
records_same : (w w' : List (List ℕ)) → Paired w → Paired w' → cells_of w ≡ cells_of w' → w ≡ w'
records_same w w' p p' e = ext_get_or [] w w' same (λ x h. record_same x h (omega (arith, same)))
  where
    same : length w ≡ length w'
    same = sym (links_length w) ∙ ap (λ (c : Cells). length c.links) e ∙ links_length w'

    record_same : (x : ℕ) → x < length w → x < length w' → get_or w x [] ≡ get_or w' x []
    record_same x h h' =
        pair_same (p x h) (p' x h')
        (link_get w x h ∙ ap (λ (c : Cells). get_or c.links x 0) e ∙ sym (link_get w' x h'))
        (note_get w x h ∙ ap (λ (c : Cells). get_or c.notes x 0) e ∙ sym (note_get w' x h'))

-- two slices of records that show the same are the same
pub all_shown : (d d' : Size) (w w' : List (List ℕ)) → Paired w → Paired w' → shown d (cells_of w) ≡ shown d' (cells_of w') → w ≡ w'
unfolding shown
all_shown d d' w w' p p' e = records_same w w' p p' (ap (λ (s : Watches). s.cells) e)
