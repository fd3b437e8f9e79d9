-- A walk through a list: the nodes passed that stayed, and those that are left.
use Rattle.std.specs.Prelude.{ℕ, suc, ◌+◌, ◌*◌, ◌≤◌, ◌<◌, ◌≡◌, ◌≢◌, not, List, [], ◌∷◌, ◌++◌, length, get_or, set, take, drop, eqb, ltb}
use Rattle.std.proofs.Common.{arith, sym, ap, subst, ◌∙◌, length-append, take_at, drop_at, length-take-le, get_or-set_same, get_or-set_other, eq-eqb, ne_eqb, lt-ltb, le-ltb}
use Rattle.std.proofs.Math.Decide.{ℕ_discrete}
use Rattle.std.proofs.Math.Seq.{append_snoc}
use Rattle.watch.specs.View.{Watches, Cells, list_of, without, names, moved, Holds, Sound}
use Rattle.watch.specs.Sizes.{moved_sizes}
use Rattle.watch.specs.Laws.{length_without, without_before, list_small}
use Rattle.watch.specs.Threads.{one_name}
use Rattle.watch.specs.Stores.{linked_of, lists_length, blockers_length, slot_low, thread_of, name_of}
use Rattle.watch.specs.declared.Size.{Size}
use Rattle.watch.specs.declared.Cursor.{Cursor}

-- a cursor in list l of n nodes' lists, whose nodes are xs: it has the link to the node at its place, and the next one
pub record Stands (n l : ℕ) (c : Cursor) (xs : List ℕ) : Type 0 where
  pub inside : c.passed ≤ length xs
  pub at : c.at ≡ get_or (names n l xs) c.passed 0
  pub after : c.after ≡ get_or (names n l xs) (suc c.passed) 0

-- in s' the node at the cursor c of s has gone to list m with the blocker b: the cursor is at the next
pub record Gone (s' : Watches) (l m b : ℕ) (s : Watches) (c : Cursor) : Type 0 where
  pub holds : s' ≡ moved l c.passed m b s
  pub stands : Stands (length s'.blockers) l c (list_of s' l)

module _ (n l : ℕ) (c : Cursor) (xs : List ℕ) (k : Stands n l c xs) (h : c.passed < length xs) where
  -- the node stays
  pub stands_stays : (r : Cursor) → r.at ≡ c.after → r.after ≡ get_or xs c.passed 0 → r.passed ≡ c.passed + 1 → Stands n l r xs
  stands_stays r p q m =
      let e : r.passed ≡ suc c.passed = omega arith in
      record { inside = omega arith; at = rw e (p ∙ k.after); after = rw e q }

  -- the node goes
  pub stands_goes : Stands n l c (without c.passed xs)
  stands_goes =
      let i = c.passed in
      record {
        inside = omega (arith, length_without i xs h);
        at = k.at ∙ sym (without_before (suc (suc i)) (names n l xs) i (omega arith) (omega arith));
        after = k.after ∙ sym (without_before (suc (suc i)) (names n l xs) (suc i) (omega arith) (omega arith));
      }

-- list l after a move out of it
pub moved_list : (l i m b : ℕ) (s : Watches) → l ≢ m → l < length s.lists → list_of (moved l i m b s) l ≡ without i (list_of s l)
unfolding moved
moved_list l i m b s n h =
    get_or-set_other (set s.lists l (without i (list_of s l))) m l _ [] n ∙ get_or-set_same s.lists l (without i (list_of s l)) [] h

pub cursor_gone : (l : ℕ) (c : Cursor) (m b : ℕ) (s s' : Watches) → l ≢ m → l < length s.lists → Stands (length s.blockers) l c (list_of s l) → c.passed < length (list_of s l)
    → s' ≡ moved l c.passed m b s → Gone s' l m b s c
cursor_gone l c m b s s' ne hl k h e =
    record {
      holds = e;
      stands = rw (e, (moved_sizes l c.passed m b s).blockers, moved_list l c.passed m b s ne hl) (stands_goes (length s.blockers) l c (list_of s l) k h);
    }

pub passed_low : (s : Watches) (l : ℕ) (c : Cursor) → Sound s → l < length s.lists → Stands (length s.blockers) l c (list_of s l) → c.passed ≤ length s.blockers
passed_low s l c k hl given = omega (arith, given.inside, list_small (length s.blockers) s.lists k.chains l hl)

-- ---- in the cells

-- where a walk starts
pub stands_first : {d : Size} {w : Cells} {s : Watches} → Holds d w s → (l : ℕ) (xs : List ℕ) (c : Cursor) → c.at ≡ d.nodes + 2 * l → c.after ≡ d.nodes + 2 * l + 1 → c.passed ≡ 0
    → Stands (length s.blockers) l c xs
stands_first k l xs c p q r = rw (blockers_length k) (record { inside = omega arith; at = rw r p; after = rw r q })

module _ {d : Size} {w : Cells} {s : Watches} (k : Holds d w s) (l : ℕ) (hl : l < length s.lists) (c : Cursor) (given : Stands (length s.blockers) l c (list_of s l)) where
  -- the cursor's two links
  pub stands_in : Stands d.nodes l c (list_of s l)
  stands_in = subst (λ (n : ℕ). Stands n l c (list_of s l)) (blockers_length k) given

  pub at_low : c.at < length w.links
  at_low = rw (k.rep.room.links, stands_in.at) (name_of k l hl c.passed (omega (arith, given.inside)))

  pub after_low : c.after < length w.links
  after_low = rw (k.rep.room.links, stands_in.after) (name_of k l hl (suc c.passed) (omega (arith, given.inside)))

  -- the cursor is at the end where its link is the first behind it
  pub at_end : (t : ℕ) → t ≡ get_or w.notes (d.nodes + 2 * l) 0 → not (eqb c.at t) ≡ ltb c.passed (length (list_of s l))
  at_end t e = go (ℕ_discrete c.passed (length (list_of s l)))
    where
      go : Dec (c.passed ≡ length (list_of s l)) → not (eqb c.at t) ≡ ltb c.passed (length (list_of s l))
      go (yes q) =
          let same : c.at ≡ t = stands_in.at ∙ ap (λ i. get_or (names d.nodes l (list_of s l)) i 0) q ∙ sym (thread_of k l hl).end ∙ sym e in
          ap not (eq-eqb c.at t same) ∙ sym (le-ltb c.passed (length (list_of s l)) (omega arith))
      go (no q) =
          let other : c.at ≢ t = λ p. q (one_name d s.lists (lists_length k) (linked_of k).chains l c.passed (length (list_of s l)) (slot_low k l hl) (omega (arith, given.inside)) (omega arith) (sym stands_in.at ∙ p ∙ e ∙ (thread_of k l hl).end)) in
          ap not (ne_eqb c.at t other) ∙ sym (lt-ltb c.passed (length (list_of s l)) (omega (arith, given.inside)))

  pub cursor_node : c.passed < length (list_of s l) → get_or w.links c.at 0 ≡ get_or (list_of s l) c.passed 0
  cursor_node h = ap (λ x. get_or w.links x 0) stands_in.at ∙ (thread_of k l hl).links c.passed h

-- ---- the two parts of a list: what has stayed, and what is left

module _ {A : Type 0} (i : ℕ) (xs : List A) (h : i < length xs) where
  kept_length : length (take i xs) ≡ i
  kept_length = length-take-le i xs (omega arith)

  pub kept_goes : take i (without i xs) ≡ take i xs
  kept_goes = take_at (take i xs) (drop (suc i) xs) i kept_length

  pub rest_goes : drop i (without i xs) ≡ drop (suc i) xs
  rest_goes = drop_at (take i xs) (drop (suc i) xs) i kept_length

  one_more : (v : A) → length (take i xs ++ (v ∷ [])) ≡ suc i
  one_more v = length-append (take i xs) (v ∷ []) ∙ omega (arith, kept_length)

  pub kept_stays : (v : A) → take (suc i) (take i xs ++ (v ∷ drop (suc i) xs)) ≡ take i xs ++ (v ∷ [])
  kept_stays v = ap (take (suc i)) (sym (append_snoc (take i xs) v (drop (suc i) xs))) ∙ take_at (take i xs ++ (v ∷ [])) (drop (suc i) xs) (suc i) (one_more v)

  pub rest_stays : (v : A) → drop (suc i) (take i xs ++ (v ∷ drop (suc i) xs)) ≡ drop (suc i) xs
  rest_stays v = ap (drop (suc i)) (sym (append_snoc (take i xs) v (drop (suc i) xs))) ∙ drop_at (take i xs ++ (v ∷ [])) (drop (suc i) xs) (suc i) (one_more v)
