-- The clauses, as the code picks them literal by literal and puts their records into a table.
use Rattle.std.specs.Prelude.{◌≡◌, refl, Bool, true, false, ◌&&◌, not, List, [], ◌∷◌, ◌++◌, map, ℕ, zero, suc, ◌+◌, ◌-◌, ◌*◌, ◌/◌, ◌≤◌, ◌<◌, length, take, drop, eqb}
use Rattle.std.proofs.Math.Path.{ap}
use Rattle.std.proofs.Common.{ap₂, sym, ◌∙◌, map-id, append_assoc, append-nil, arith, add-one, length-append, take_at}
use Rattle.std.specs.List.{list_all, zip}
use Rattle.model.specs.Lit.{var}
use Rattle.smallbooks.specs.Choose.{combinations, of_sizes}
use Rattle.smallbooks.proofs.Choose.{sizes_split, sizes_last}
use Rattle.smallbooks.specs.Books.{upward, literals, apart, filter, clauses, record_of, records_of}
use Rattle.smallbooks.proofs.SetsLaws.{filter-append}
use Rattle.smallbooks.specs.Pick.{if_apart, picked, table_cells, Picking, gathered, Gathering}

-- ---- no variable twice

-- each literal beside the next
pub apart_beside : (c : List ℕ) → list_all (λ (p : ℕ × ℕ). not (eqb (p.0 / 2) (p.1 / 2))) (zip c (drop 1 c)) ≡ apart c
unfolding apart
apart_beside [] = refl
apart_beside (l ∷ []) = refl
apart_beside (l ∷ m ∷ ls) = ap (λ (b : Bool). not (eqb (var l) (var m)) && b) (apart_beside (m ∷ ls))

-- ---- a clause that is kept, or not

pub records-append : (cs ds : List (List ℕ)) → records_of (cs ++ ds) ≡ records_of cs ++ records_of ds
unfolding records_of
records-append [] ds = refl
records-append (c ∷ cs) ds = ap (λ (l : List ℕ). record_of c ++ l) (records-append cs ds) ∙ sym (append_assoc (record_of c) (records_of cs) (records_of ds))

pub apart_kept : (c : List ℕ) → apart c ≡ true → if_apart c ≡ record_of c
unfolding if_apart filter records_of
apart_kept c e = rw (e, filter) (append-nil (record_of c))

pub apart_left : (c : List ℕ) → apart c ≡ false → if_apart c ≡ []
unfolding if_apart filter records_of
apart_left c e = rw (e, filter) refl

pub record_length : (c : List ℕ) → length (record_of c) ≡ 2 + length c
unfolding record_of
record_length c = omega arith

module _ (c table : List ℕ) where
  pub kept_room : apart c ≡ true → length table + length (if_apart c) ≤ table_cells → length table + (2 + length c) ≤ table_cells
  kept_room e h = omega (arith, ap length (apart_kept c e), record_length c)

  pub kept_joins : {table' : List ℕ} → apart c ≡ true → table' ≡ table ++ record_of c → table' ≡ table ++ if_apart c
  kept_joins e h = h ∙ ap (λ (l : List ℕ). table ++ l) (sym (apart_kept c e))

  pub left_out : apart c ≡ false → table ≡ table ++ if_apart c
  left_out e = sym (append-nil table) ∙ ap (λ (l : List ℕ). table ++ l) (sym (apart_left c e))

-- ---- the clauses of the literals p and k more, each from l to end - 1

pub picked_none : (p : List ℕ) (l end : ℕ) → if_apart p ≡ picked p 0 l end
unfolding picked if_apart combinations
picked_none p l end = ap (λ (q : List ℕ). records_of (filter apart (q ∷ []))) (sym (append-nil p))

pub picked_end : (p : List ℕ) (k l end : ℕ) → 1 ≤ k → l ≡ end → picked p k l end ≡ []
unfolding picked combinations upward filter records_of
picked_end p zero l end h e = absurd (omega arith)
picked_end p (suc k) l end h e =
    let z : end - l ≡ 0 = omega arith in
    ap (λ (n : ℕ). records_of (filter apart (map (λ c. p ++ c) (combinations (suc k) (upward l n))))) z

map_longer : (p : List ℕ) (l : ℕ) (cs : List (List ℕ)) → map (λ c. p ++ c) (map (λ c. l ∷ c) cs) ≡ map (λ c. (p ++ l ∷ []) ++ c) cs
map_longer p l [] = refl
map_longer p l (c ∷ cs) = ap₂ (λ (x : List ℕ) (y : List (List ℕ)). x ∷ y) (sym (append_assoc p (l ∷ []) c)) (map_longer p l cs)

map_both : (p : List ℕ) (cs ds : List (List ℕ)) → map (λ c. p ++ c) (cs ++ ds) ≡ map (λ c. p ++ c) cs ++ map (λ c. p ++ c) ds
map_both p [] ds = refl
map_both p (c ∷ cs) ds = ap (λ (x : List (List ℕ)). (p ++ c) ∷ x) (map_both p cs ds)

-- with l, or without it
pub picked_more : (p : List ℕ) (k l end : ℕ) → 1 ≤ k → l < end
    → picked (p ++ l ∷ []) (k - 1) (l + 1) end ++ picked p k (l + 1) end ≡ picked p k l end
unfolding picked combinations upward
picked_more p zero l end h g = absurd (omega arith)
picked_more p (suc k) l end h g =
    let n : suc k - 1 ≡ k = omega arith in
    let e : suc (end - (l + 1)) ≡ end - l = omega arith in
    let rest = upward (l + 1) (end - (l + 1)) in
    let with_l = combinations k rest in
    let without = combinations (suc k) rest in
    ap (λ (j : ℕ). records_of (filter apart (map (λ c. (p ++ l ∷ []) ++ c) (combinations j rest))) ++ picked p (suc k) (l + 1) end) n
    ∙ ap (λ (x : List (List ℕ)). records_of (filter apart x) ++ picked p (suc k) (l + 1) end) (sym (map_longer p l with_l))
    ∙ sym (records-append (filter apart (map (λ c. p ++ c) (map (λ c. l ∷ c) with_l))) (filter apart (map (λ c. p ++ c) without)))
    ∙ ap records_of (sym (filter-append apart (map (λ c. p ++ c) (map (λ c. l ∷ c) with_l)) (map (λ c. p ++ c) without)))
    ∙ ap (λ (x : List (List ℕ)). records_of (filter apart x)) (sym (map_both p (map (λ c. l ∷ c) with_l) without))
    ∙ ap (λ (x : ℕ). records_of (filter apart (map (λ c. p ++ c) (combinations (suc k) (l ∷ upward x (end - (l + 1))))))) (add-one l)
    ∙ ap (λ (x : ℕ). records_of (filter apart (map (λ c. p ++ c) (combinations (suc k) (upward l x))))) e

module _ {l end left : ℕ} {chosen table one : List ℕ} (p : Picking l end left chosen table) (some : 1 ≤ left) (h : l < end) (e : one ≡ chosen ++ l ∷ []) where
  both : picked one (left - 1) (l + 1) end ++ picked chosen left (l + 1) end ≡ picked chosen left l end
  both = rw e (picked_more chosen left l end some h)

  both_long : length (picked one (left - 1) (l + 1) end) + length (picked chosen left (l + 1) end) ≡ length (picked chosen left l end)
  both_long = sym (length-append (picked one (left - 1) (l + 1) end) (picked chosen left (l + 1) end)) ∙ ap length both

  pub picking_with : Picking (l + 1) end (left - 1) one table
  picking_with = record { from = omega arith; literals = omega (arith, p.literals, ap length e, length-append chosen (l ∷ [])); room = omega (arith, p.room, both_long) }

  module _ {popped chosen' table' : List ℕ} (t : popped ≡ take (length chosen' - 1) chosen') (k : chosen' ≡ one) (q : table' ≡ table ++ picked one (left - 1) (l + 1) end) where
    still : popped ≡ chosen
    still =
        t ∙ ap (λ (c : List ℕ). take (length c - 1) c) (k ∙ e)
        ∙ take_at chosen (l ∷ []) (length (chosen ++ l ∷ []) - 1) (omega (arith, length-append chosen (l ∷ [])))

    pub picking_without : Picking (l + 1) end left popped table'
    picking_without = rw still (record {
      from = omega arith;
      literals = p.literals;
      room = omega (arith, p.room, both_long, ap length q, length-append table (picked one (left - 1) (l + 1) end));
    })

    pub picked_both : {table'' : List ℕ} → table'' ≡ table' ++ picked popped left (l + 1) end → table'' ≡ table ++ picked chosen left l end
    picked_both z =
        z ∙ ap₂ (λ (t c : List ℕ). t ++ picked c left (l + 1) end) q still
        ∙ append_assoc table (picked one (left - 1) (l + 1) end) (picked chosen left (l + 1) end)
        ∙ ap (λ (t : List ℕ). table ++ t) both

module _ {l end left : ℕ} {chosen table : List ℕ} (p : Picking l end left chosen table) where
  -- a clause whose literals are all chosen
  here : left ≡ 0 → if_apart chosen ≡ picked chosen left l end
  here z = picked_none chosen l end ∙ ap (λ (k : ℕ). picked chosen k l end) (sym z)

  pub here_room : left ≡ 0 → length table + length (if_apart chosen) ≤ table_cells
  here_room z = omega (arith, p.room, ap length (here z))

  pub picked_here : {table' : List ℕ} → left ≡ 0 → table' ≡ table ++ if_apart chosen → table' ≡ table ++ picked chosen left l end
  picked_here z w = w ∙ ap (λ (t : List ℕ). table ++ t) (here z)

  -- no literal is left
  pub picked_out : 1 ≤ left → l ≡ end → table ≡ table ++ picked chosen left l end
  picked_out some e = sym (append-nil table) ∙ ap (λ (t : List ℕ). table ++ t) (sym (picked_end chosen left l end some e))

-- ---- length by length

pub gathered-all : (v : ℕ) → gathered v v ≡ records_of (clauses v)
unfolding gathered clauses
gathered-all v = refl

pub gathered_none : (v : ℕ) → gathered v 0 ≡ []
unfolding gathered of_sizes filter records_of
gathered_none v = refl

picked_first : (v k : ℕ) → picked [] k 0 (2 * v) ≡ records_of (filter apart (combinations k (literals v)))
unfolding picked literals
picked_first v k =
    let e : 2 * v - 0 ≡ 2 * v = omega arith in
    ap (λ (x : List (List ℕ)). records_of (filter apart x)) (map-id (combinations k (upward 0 (2 * v - 0))))
    ∙ ap (λ (n : ℕ). records_of (filter apart (combinations k (upward 0 n)))) e

pub gathered_more : (v k : ℕ) → 1 ≤ k → gathered v (k - 1) ++ picked [] k 0 (2 * v) ≡ gathered v k
unfolding gathered
gathered_more v k h =
    let e : k - 1 + 1 ≡ k = omega arith in
    let f : 1 + (k - 1) ≡ k = omega arith in
    let before = of_sizes 1 (k - 1) (literals v) in
    ap (λ (l : List ℕ). gathered v (k - 1) ++ l) (picked_first v k)
    ∙ sym (records-append (filter apart before) (filter apart (combinations k (literals v))))
    ∙ ap records_of (sym (filter-append apart before (combinations k (literals v))))
    ∙ ap (λ (i : ℕ). records_of (filter apart (before ++ combinations i (literals v)))) (sym f)
    ∙ ap (λ (x : List (List ℕ)). records_of (filter apart x)) (sym (sizes_last 1 (k - 1) (literals v)))
    ∙ ap (λ (i : ℕ). records_of (filter apart (of_sizes 1 i (literals v)))) e

-- no length asks for more room than all of them
gathered_within : (v k : ℕ) → k ≤ v → length (gathered v k) ≤ length (records_of (clauses v))
unfolding gathered clauses
gathered_within v k h =
    let e : k + (v - k) ≡ v = omega arith in
    let fore = of_sizes 1 k (literals v) in
    let rest = of_sizes (1 + k) (v - k) (literals v) in
    let s = ap (λ (x : List (List ℕ)). length (records_of (filter apart x))) (ap (λ (i : ℕ). of_sizes 1 i (literals v)) (sym e) ∙ sizes_split 1 k (v - k) (literals v)) in
    omega (
      arith,
      s,
      ap (λ (x : List (List ℕ)). length (records_of x)) (filter-append apart fore rest),
      ap length (records-append (filter apart fore) (filter apart rest)),
      length-append (records_of (filter apart fore)) (records_of (filter apart rest)),
    )

-- how much there is of up to three variables
records_known : (v : ℕ) → v ≤ 3 → length (records_of (clauses v)) ≤ table_cells
unfolding combinations of_sizes upward literals apart filter clauses record_of records_of
records_known zero h = omega arith
records_known (suc zero) h = omega arith
records_known (suc (suc zero)) h = omega arith
records_known (suc (suc (suc zero))) h = omega arith
records_known (suc (suc (suc (suc v)))) h = absurd (omega arith)

pub gathering_start : (v : ℕ) → Gathering v 1 [] []
gathering_start v = record { none = refl; cells = sym (gathered_none v) }

module _ {v k : ℕ} {chosen table : List ℕ} (g : Gathering v k chosen table) (some : 1 ≤ k) (h : k ≤ v) where
  step_long : length (gathered v (k - 1)) + length (picked [] k 0 (2 * v)) ≡ length (gathered v k)
  step_long = sym (length-append (gathered v (k - 1)) (picked [] k 0 (2 * v))) ∙ ap length (gathered_more v k some)

  pub gathering_picks : v ≤ 3 → Picking 0 (2 * v) k chosen table
  gathering_picks l = record {
    from = omega arith;
    literals = omega (arith, ap length g.none);
    room = omega (
      arith,
      ap (λ (c : List ℕ). length (picked c k 0 (2 * v))) g.none,
      ap length g.cells,
      step_long,
      gathered_within v k h,
      records_known v l,
    );
  }

  pub gathering_more : {chosen' table' : List ℕ} → chosen' ≡ chosen → table' ≡ table ++ picked chosen k 0 (2 * v) → Gathering v (k + 1) chosen' table'
  gathering_more {chosen'} {table'} c q =
      let e : k ≡ k + 1 - 1 = omega arith in
      record {
        none = c ∙ g.none;
        cells =
            q ∙ ap₂ (λ (t p : List ℕ). t ++ picked p k 0 (2 * v)) g.cells g.none
            ∙ gathered_more v k some
            ∙ ap (gathered v) e;
      }

pub gathering_end : {v k : ℕ} {chosen table : List ℕ} → Gathering v k chosen table → k ≡ v + 1 → table ≡ records_of (clauses v)
gathering_end {v} {k} g h =
    let e : k - 1 ≡ v = omega arith in
    g.cells ∙ ap (gathered v) e ∙ gathered-all v
