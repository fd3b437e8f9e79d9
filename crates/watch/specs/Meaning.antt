-- The watch lists as the definition has them, and what each function does to those.
use Rattle.std.specs.Prelude.{ℕ, zero, suc, ◌*◌, ◌/◌, ◌≤◌, ◌<◌, ◌≡◌, ◌≢◌, length, replicate, eqb}
use Rattle.std.proofs.Common.{arith, not-suc-le-zero, ap₂, ◌∙◌, get_or-set_same, get_or-set_other}
use Rattle.std.proofs.Math.Path.{refl, sym, ap}
use mathlib.Core.List.{List, [], ◌∷◌, ◌++◌, map, map-append}
use Rattle.std.proofs.Math.ListN
use Rattle.std.proofs.Math.ListN.{get_or, set, length-map, length-set}
use Rattle.std.proofs.Math.Seq.{set-get_or, set-set}
use Rattle.std.proofs.lemmas.Bool.{lt-leb}
use Rattle.std.proofs.lemmas.List.{map-set, take-map, drop-map, get_or-map}
use Rattle.region.specs.Table.{sum_get, sum-set}
use Rattle.model.specs.State.{Watch}
use Rattle.model.specs.Store.{push_watch}
use Rattle.watch.specs.Count.{bit, occ, over, same_bit, occ_at, not_here}
use Rattle.watch.specs.View.{Watches, list_of, without, Apart, Under, Free, appended, unlinked, moved, blocked}
use Rattle.watch.specs.Laws.{fresh, free_without}

-- node x with the blockers bs
abbrev pub as_watch : List ℕ → ℕ → Watch
as_watch bs x = record { clause = x / 2; blocker = get_or bs x 0 }

abbrev pub as_list : List ℕ → List ℕ → List Watch
as_list bs xs = map (as_watch bs) xs

unfoldable pub as_watches : Watches → List (List Watch)
as_watches s = map (as_list s.blockers) s.lists

map-replicate : {A B : Type 0} (f : A → B) (n : ℕ) (a : A) → map f (replicate n a) ≡ replicate n (f a)
map-replicate f zero a = refl
map-replicate f (suc n) a = ap (λ r. f a ∷ r) (map-replicate f n a)

-- ---- reading

module _ (s : Watches) where
  pub as_length : length (as_watches s) ≡ length s.lists
  unfolding as_watches
  as_length = length-map s.lists (as_list s.blockers)

  pub as_list_of : (l : ℕ) → get_or (as_watches s) l [] ≡ as_list s.blockers (list_of s l)
  unfolding as_watches
  as_list_of l = ListN.get_or-map (as_list s.blockers) s.lists l []

  pub as_count : (l : ℕ) → length (get_or (as_watches s) l []) ≡ length (list_of s l)
  as_count l = ap length (as_list_of l) ∙ length-map (list_of s l) (as_watch s.blockers)

  -- the watch at a place of a list
  pub as_at : (l i : ℕ) (e : Watch) → i < length (list_of s l) → get_or (get_or (as_watches s) l []) i e ≡ as_watch s.blockers (get_or (list_of s l) i 0)
  as_at l i e h = rw (as_list_of l) (get_or-map (as_watch s.blockers) (list_of s l) i 0 e h)

-- ---- a blocker that is of no node of a list

module _ (bs : List ℕ) (x b : ℕ) where
  list_frame : (xs : List ℕ) → occ x xs ≡ 0 → as_list (set bs x b) xs ≡ as_list bs xs
  list_frame [] z = refl
  list_frame (y ∷ ys) z =
      rw (get_or-set_other bs x y b 0 (not_here x y ys z)) (ap (λ (r : List Watch). as_watch bs y ∷ r) (list_frame ys (omega arith)))

  lists_frame : (ls : List (List ℕ)) → Free x ls → map (as_list (set bs x b)) ls ≡ map (as_list bs) ls
  lists_frame [] z = refl
  lists_frame (xs ∷ ls) z = ap₂ ◌∷◌ (list_frame xs (omega arith)) (lists_frame ls (omega arith))

  -- and of one
  list_blocked : (xs : List ℕ) (i : ℕ) → ((y : ℕ) → occ y xs ≤ 1) → i < length xs → x ≡ get_or xs i 0 → x < length bs
      → as_list (set bs x b) xs ≡ set (as_list bs xs) i (record { clause = x / 2; blocker = b })
  list_blocked [] i once h e g = absurd (not-suc-le-zero h)
  list_blocked (y ∷ ys) zero once h e g =
      let none : occ x ys ≡ 0 = rw e (let z : occ y ys ≡ 0 = omega (arith, once y, same_bit y) in z) in
      rw (← e, get_or-set_same bs x b 0 g) (ap (λ (r : List Watch). record { clause = x / 2; blocker = b } ∷ r) (list_frame ys none))
  list_blocked (y ∷ ys) (suc i) once h e g =
      let later : 1 ≤ occ x ys = rw e (occ_at ys i (omega arith)) in
      let other : y ≢ x = λ q. absurd (let z : bit (eqb x y) ≡ 1 = rw q (same_bit x) in omega (arith, once x)) in
      rw (get_or-set_other bs x y b 0 other) (ap (λ (r : List Watch). as_watch bs y ∷ r) (list_blocked ys i (λ v. omega (arith, once v)) (omega arith) e g))

-- ---- the functions

-- `append` is the definition's `push_watch`
pub as_appended : (l x b : ℕ) (s : Watches) → l < length s.lists → Free x s.lists → x < length s.blockers
    → as_watches (appended l x b s) ≡ push_watch (as_watches s) l (record { clause = x / 2; blocker = b })
unfolding as_watches appended push_watch
as_appended l x b s hl free hx =
    let bs = s.blockers in
    let none : occ x (list_of s l) ≡ 0 = omega (arith, sum_get (occ x) s.lists l [] hl) in
    map-set (as_list (set bs x b)) s.lists l (list_of s l ++ (x ∷ []))
    ∙ rw (lists_frame bs x b s.lists free, map-append, list_frame bs x b (list_of s l) none, get_or-set_same bs x b 0 hx, ListN.get_or-map (as_list bs) s.lists l [])

pub as_unlinked : (l i : ℕ) (s : Watches) → as_watches (unlinked l i s) ≡ set (as_watches s) l (without i (get_or (as_watches s) l []))
unfolding as_watches unlinked
as_unlinked l i s =
    let f = as_watch s.blockers in
    map-set (as_list s.blockers) s.lists l (without i (list_of s l))
    ∙ rw (ListN.get_or-map (as_list s.blockers) s.lists l [], map-append, take-map f, drop-map f)

-- a move is an unlinking and an append
pub moved_is : (l i m b : ℕ) (s : Watches) → l ≢ m → moved l i m b s ≡ appended m (get_or (list_of s l) i 0) b (unlinked l i s)
unfolding moved appended unlinked
moved_is l i m b s n = rw (get_or-set_other s.lists l m (without i (list_of s l)) [] (λ e. n (sym e)))

module _ (l i : ℕ) (s : Watches) (apart : Apart s.lists) (hl : l < length s.lists) (hi : i < length (list_of s l))
    (hx : get_or (list_of s l) i 0 < length s.blockers) where
  pub as_moved : (m b : ℕ) → m < length s.lists → l ≢ m
      → as_watches (moved l i m b s) ≡ push_watch (set (as_watches s) l (without i (get_or (as_watches s) l []))) m (record { clause = get_or (list_of s l) i 0 / 2; blocker = b })
  as_moved m b hm n =
      ap as_watches (moved_is l i m b s n)
      ∙ as_appended m (get_or (list_of s l) i 0) b (unlinked l i s) (unfold unlinked in (rw length-set hm)) (unfold unlinked in (free_without s.lists l i hl hi apart)) (unfold unlinked in hx)
      ∙ ap (λ ws. push_watch ws m (record { clause = get_or (list_of s l) i 0 / 2; blocker = b })) (as_unlinked l i s)

  pub as_blocked : (b : ℕ)
      → as_watches (blocked (get_or (list_of s l) i 0) b s) ≡ set (as_watches s) l (set (get_or (as_watches s) l []) i (record { clause = get_or (list_of s l) i 0 / 2; blocker = b }))
  unfolding as_watches blocked
  as_blocked b =
      let bs = s.blockers in
      let ls = s.lists in
      let xs = list_of s l in
      let x = get_or xs i 0 in
      let once : (y : ℕ) → occ y xs ≤ 1 = λ y. omega (arith, sum_get (occ y) ls l [] hl, apart y) in
      let free : Free x (set ls l []) = omega (arith, sum-set (occ x) ls l [] [] hl, occ_at xs i hi, apart x) in
      let back : ls ≡ set (set ls l []) l xs = sym (set-set ls l [] xs ∙ set-get_or ls l []) in
      ap (map (as_list (set bs x b))) back
      ∙ map-set (as_list (set bs x b)) (set ls l []) l xs
      ∙ rw (lists_frame bs x b (set ls l []) free, map-set (as_list bs) ls l [], set-set, list_blocked bs x b xs i once hi refl hx, ListN.get_or-map (as_list bs) ls l [])

-- n lists, all empty
pub as_emptied : (n : ℕ) (s : Watches) → s.lists ≡ replicate n [] → as_watches s ≡ replicate n []
unfolding as_watches
as_emptied n s e = rw e (map-replicate (as_list s.blockers) n [])

-- ---- nodes in use

all_under : (m : ℕ) (xs : List ℕ) → ((i : ℕ) → i < length xs → get_or xs i 0 < m) → over m xs ≡ 0
all_under m [] h = refl
all_under m (x ∷ xs) h = omega (arith, ap bit (lt-leb m x (h 0 (omega arith))), all_under m xs (λ i g. h (suc i) (omega arith)))

lists_under : (m : ℕ) (ls : List (List ℕ)) → ((l i : ℕ) → l < length ls → i < length (get_or ls l []) → get_or (get_or ls l []) i 0 < m) → Under m ls
lists_under m [] h = refl
lists_under m (xs ∷ ls) h = omega (arith, all_under m xs (λ i g. h 0 i (omega arith) g), lists_under m ls (λ l i g. h (suc l) i (omega arith)))

-- the watched clauses are below n: so are the nodes below 2n, and the nodes of clause n and later are in no list
pub under_clauses : (n : ℕ) (s : Watches) (e : Watch) → ((l i : ℕ) → l < length (as_watches s) → i < length (get_or (as_watches s) l []) → (get_or (get_or (as_watches s) l []) i e).clause < n)
    → Under (2 * n) s.lists
under_clauses n s e h =
    lists_under (2 * n) s.lists
    (λ l i hl hi. let c : get_or (list_of s l) i 0 / 2 < n = rw (as_at s l i e hi) at (h l i (rw (as_length s) hl) (rw (as_count s l) hi)) in omega arith)

pub fresh-clause : (n x : ℕ) (s : Watches) → Under (2 * n) s.lists → n ≤ x / 2 → Free x s.lists
fresh-clause n x s k h = fresh (2 * n) x s.lists k (omega arith)
