-- What the cells hold after each function.
use Rattle.std.specs.Prelude.{ℕ, zero, suc, ◌+◌, ◌*◌, ◌≤◌, ◌<◌, ◌≢◌, length, set, take, drop, replicate}
use Rattle.std.proofs.Common.{arith, ap₂, ◌∙◌, subst, length-drop, take-append-drop, get_or-set_same, get_or-take, get_or-drop}
use Rattle.std.proofs.Math.Decide.{ℕ_discrete}
use Rattle.std.proofs.Math.Path.{◌≡◌, refl, sym, ap}
use mathlib.Core.List.{List, [], ◌∷◌, ◌++◌}
use Rattle.std.proofs.Math.ListN.{get_or, length-set}
use Rattle.std.proofs.lemmas.List.{length-replicate, get_or-replicate}
use Rattle.std.proofs.Math.Seq.{get_or-set_other, length-take-le, take-set-lt, take-set-le}
use Rattle.std.specs.Simd.{first_chunks}
use Rattle.model.specs.Limits.{max_variables, max_clauses}
use borrow.Author.Tests.{eq-eqb, ne_eqb}
use Rattle.region.specs.Table.{tabulate, tabulate_is, sum_of}
use Rattle.watch.specs.Count.{occ, over}
use Rattle.watch.specs.View.{Free, Cells, cells_of, found, names, without, with_link, with_note, cut_last, cut_inner, cells_appended, records, chains, Thread, Linked, Room, Rep, Holds, Sound, Watches, list_of, shown, pack, appended, cells_unlinked, unlinked, blocked, emptied}
use Rattle.watch.specs.Cells.{length-first_chunks, links_length, notes_length}
use Rattle.watch.specs.Laws.{node_below}
use Rattle.watch.specs.Threads.{name_low, one_name, lists_are, append_linked, last_linked, second_linked, inner_linked}
use Rattle.watch.specs.declared.Size.{Size}

-- ---- a cell set leaves the room

module _ {d : Size} {c : Cells} (r : Room d c) (x v : ℕ) where
  room_link : Room d (with_link x v c)
  room_link = record { slots = r.slots; nodes = r.nodes; links = length-set c.links x v ∙ r.links; notes = r.notes }

  pub room_note : Room d (with_note x v c)
  room_note = record { slots = r.slots; nodes = r.nodes; links = r.links; notes = length-set c.notes x v ∙ r.notes }

-- ---- the cells hold the lists ls

held : (d : Size) (c : Cells) (ls : List (List ℕ)) → Room d c → Linked d c ls → Holds d c (pack d c ls)
unfolding shown
held d c ls r k =
    let same : chains d c ≡ ls = lists_are d c ls k in
    record { rep = record { room = r; linked = subst (Linked d c) (sym same) k }; view = ap (pack d c) same }

same_watches : {ls ls' : List (List ℕ)} {bs bs' : List ℕ} {c c' : Cells} → ls ≡ ls' → bs ≡ bs' → c ≡ c'
    → ◌≡◌ {A = Watches} (record { lists = ls; blockers = bs; cells = c }) (record { lists = ls'; blockers = bs'; cells = c' })
same_watches el eb ec = rw (el, eb, ec)

held_as : (d : Size) (c : Cells) (ls : List (List ℕ)) (s : Watches) → Room d c → Linked d c ls → pack d c ls ≡ s → Holds d c s
held_as d c ls s r k e = subst (Holds d c) e (held d c ls r k)

pub holds : {d : Size} {c : Cells} {s : Watches} → Rep d c → shown d c ≡ s → Holds d c s
holds r e = record { rep = r; view = e }

-- ---- reading

module _ {d : Size} {c : Cells} {s : Watches} (k : Holds d c s) where
  blockers_are : take d.nodes c.notes ≡ s.blockers
  unfolding shown
  blockers_are = ap (λ (v : Watches). v.blockers) k.view

  pub cells_are : c ≡ s.cells
  unfolding shown
  cells_are = ap (λ (v : Watches). v.cells) k.view

  pub linked_of : Linked d c s.lists
  unfolding shown
  linked_of = subst (Linked d c) (ap (λ (v : Watches). v.lists) k.view) k.rep.linked

  pub lists_length : length s.lists ≡ d.slots
  lists_length = linked_of.count

  pub blockers_length : length s.blockers ≡ d.nodes
  blockers_length = ap length (sym blockers_are) ∙ length-take-le d.nodes c.notes (omega (arith, k.rep.room.notes))

  -- a slice whose first records have the same cells holds the same lists
  module _ (w : List ℕ) (e : cells_of (first_chunks 2 (length c.links) w) ≡ c) where
    there_again : cells_of (first_chunks 2 (length s.blockers + 2 * length s.lists) w) ≡ c
    there_again = rw (blockers_length, lists_length, ← k.rep.room.links) e

    pub holds_again : Holds (record { slots = length s.lists; nodes = length s.blockers }) (cells_of (first_chunks 2 (length s.blockers + 2 * length s.lists) w)) s
    holds_again = rw (there_again, blockers_length, lists_length) k

  pub sound_of : Sound s
  sound_of =
      let r = k.rep.room in
      record {
        lists = rw lists_length r.slots;
        blockers = rw blockers_length r.nodes;
        links = rw (lists_length, blockers_length, ← cells_are) r.links;
        notes = rw (lists_length, blockers_length, ← cells_are) r.notes;
        nodes = rw (blockers_length, ← cells_are) blockers_are;
        threads = λ l h. rw (blockers_length, ← cells_are) (linked_of.threads l (rw lists_length at h));
        chains = rw blockers_length linked_of.chains;
      }

  pub blocker_of : (x : ℕ) → x < length s.blockers → get_or c.notes x 0 ≡ get_or s.blockers x 0
  blocker_of x h = sym (get_or-take d.nodes c.notes x 0 (rw blockers_length at h)) ∙ ap (λ (xs : List ℕ). get_or xs x 0) blockers_are

  pub note_low : (x : ℕ) → x < length s.blockers → x < length c.notes
  note_low x h = omega (arith, blockers_length, k.rep.room.notes)

  -- the list l
  module _ (l : ℕ) (h : l < length s.lists) where
    pub slot_low : l < d.slots
    slot_low = rw lists_length at h

    pub thread_of : Thread d.nodes c l (list_of s l)
    thread_of = linked_of.threads l slot_low

    -- its two records
    pub home_low : d.nodes + 2 * l + 1 < length c.notes
    home_low = omega (arith, slot_low, k.rep.room.notes)

    -- a node
    pub node_of : (i : ℕ) → i < length (list_of s l) → get_or (list_of s l) i 0 < d.nodes
    node_of i p = node_below d.nodes s.lists linked_of.chains.under l i h p

    -- a link
    pub name_of : (i : ℕ) → i < suc (suc (length (list_of s l))) → get_or (names d.nodes l (list_of s l)) i 0 < records d
    name_of i p = name_low d s.lists lists_length linked_of.chains l i slot_low p

    -- the first link behind the end
    pub end_low : get_or c.notes (d.nodes + 2 * l) 0 < length c.links
    end_low = rw (thread_of.end, k.rep.room.links) (name_of (length (list_of s l)) (omega arith))

-- ---- a blocker

module _ {d : Size} {c : Cells} {s : Watches} (k : Holds d c s) where
  pub blocker_holds : (x b : ℕ) → x < length s.blockers → Holds d (with_note x b c) (blocked x b s)
  unfolding blocked
  blocker_holds x b h =
      let hx : x < d.nodes = rw (blockers_length k) at h in
      held_as d (with_note x b c) s.lists _ (room_note k.rep.room x b)
      (record {
        count = lists_length k;
        threads = λ l hl.
            let t = (linked_of k).threads l hl in
            record {
              links = t.links;
              end = get_or-set_other c.notes x (d.nodes + 2 * l) b 0 (omega arith) ∙ t.end;
              behind = get_or-set_other c.notes x (d.nodes + 2 * l + 1) b 0 (omega arith) ∙ t.behind;
            };
        chains = (linked_of k).chains;
      })
      (same_watches refl (take-set-lt d.nodes c.notes x b hx ∙ ap (λ (bs : List ℕ). set bs x b) (blockers_are k)) (ap (with_note x b) (cells_are k)))

-- ---- a node comes

module _ {d : Size} {c : Cells} {s : Watches} (k : Holds d c s) (l x b : ℕ) (hl : l < length s.lists) (hx : x < length s.blockers) (free : Free x s.lists) where
  low : x < d.nodes
  low = rw (blockers_length k) at hx

  came_room : Room d (cells_appended (d.nodes + 2 * l) x b c)
  unfolding cells_appended
  came_room =
      room_link (room_note (room_note (room_note k.rep.room x b) (d.nodes + 2 * l) (get_or c.notes (d.nodes + 2 * l + 1) 0)) (d.nodes + 2 * l + 1) x)
      (get_or c.notes (d.nodes + 2 * l) 0) x

  came_blockers : take d.nodes (cells_appended (d.nodes + 2 * l) x b c).notes ≡ set s.blockers x b
  unfolding cells_appended
  came_blockers =
      let ns = c.notes in
      let u = get_or ns (d.nodes + 2 * l + 1) 0 in
      take-set-le d.nodes (set (set ns x b) (d.nodes + 2 * l) u) (d.nodes + 2 * l + 1) x (omega arith)
      ∙ take-set-le d.nodes (set ns x b) (d.nodes + 2 * l) u (omega arith)
      ∙ take-set-lt d.nodes ns x b low
      ∙ ap (λ (bs : List ℕ). set bs x b) (blockers_are k)

  appended_holds : Holds d (cells_appended (d.nodes + 2 * l) x b c) (appended l x b s)
  unfolding appended
  appended_holds =
      held_as d (cells_appended (d.nodes + 2 * l) x b c) (set s.lists l (list_of s l ++ (x ∷ []))) _ came_room
      (append_linked d c s.lists (linked_of k) k.rep.room l (slot_low k l hl) x b low free)
      (same_watches refl came_blockers (ap₂ (λ (n : ℕ) (w : Cells). cells_appended (n + 2 * l) x b w) (sym (blockers_length k)) (cells_are k)))

  -- the list's first record e, and the two links t and u behind its end
  pub append_holds : (e t u : ℕ) → e ≡ d.nodes + 2 * l → t ≡ get_or c.notes e 0 → u ≡ get_or c.notes (e + 1) 0
      → Holds d (with_link t x (with_note (e + 1) x (with_note e u (with_note x b c)))) (appended l x b s)
  unfolding cells_appended
  append_holds e t u ee et eu = rw (et, eu, ee) appended_holds

-- ---- a node goes

module _ (ls : List ℕ) (i : ℕ) (c : Cells) where
  abbrev past : Cells
  past = cut_inner (get_or ls i 0) (get_or ls (suc i) 0) (get_or ls (suc (suc i)) 0) c

  unlinked_last : suc (suc (suc i)) ≡ length ls → cells_unlinked ls i c ≡ cut_last (get_or ls 0 0) (get_or ls i 0) (get_or ls (suc i) 0) c
  unfolding cells_unlinked
  unlinked_last e = rw (cells_unlinked, eq-eqb (suc (suc (suc i))) (length ls) e)

  unlinked_second : suc (suc (suc (suc i))) ≡ length ls → cells_unlinked ls i c ≡ with_note (get_or ls 0 0) (get_or ls (suc i) 0) past
  unfolding cells_unlinked
  unlinked_second e = rw (cells_unlinked, ne_eqb (suc (suc (suc i))) (length ls) (omega arith), eq-eqb (suc (suc (suc (suc i)))) (length ls) e)

  unlinked_inner : suc (suc (suc i)) ≢ length ls → suc (suc (suc (suc i))) ≢ length ls → cells_unlinked ls i c ≡ past
  unfolding cells_unlinked
  unlinked_inner p q = rw (cells_unlinked, ne_eqb (suc (suc (suc i))) (length ls) p, ne_eqb (suc (suc (suc (suc i)))) (length ls) q)

module _ {d : Size} {c : Cells} {s : Watches} (k : Holds d c s) (l : ℕ) (hl : l < length s.lists) (i : ℕ) (hi : i < length (list_of s l)) where
  abbrev ns : List ℕ
  ns = names d.nodes l (list_of s l)

  -- the cells after it left, which hold the list without it and the same blockers
  shrunk : (c' : Cells) → Room d c' → Linked d c' (set s.lists l (without i (list_of s l))) → take d.nodes c'.notes ≡ take d.nodes c.notes → cells_unlinked ns i c ≡ c'
      → Holds d c' (unlinked l i s)
  unfolding unlinked
  shrunk c' r t eb ec =
      held_as d c' (set s.lists l (without i (list_of s l))) _ r t
      (same_watches refl (eb ∙ blockers_are k)
      (sym ec ∙ ap₂ (λ (n : ℕ) (w : Cells). cells_unlinked (names n l (list_of s l)) i w) (sym (blockers_length k)) (cells_are k)))

  -- the node x at the place, the links a and b there, the list's first record e, and the two links t and u behind its end
  module _ (x a b e t u : ℕ) (ex : x ≡ get_or (list_of s l) i 0) (ea : a ≡ get_or ns i 0) (eb : b ≡ get_or ns (suc i) 0)
      (ee : e ≡ d.nodes + 2 * l) (et : t ≡ get_or c.notes e 0) (eu : u ≡ get_or c.notes (e + 1) 0) where
    end_is : t ≡ get_or ns (length (list_of s l)) 0
    end_is = et ∙ ap (λ j. get_or c.notes j 0) ee ∙ (thread_of k l hl).end

    behind_is : u ≡ get_or ns (suc (length (list_of s l))) 0
    behind_is = eu ∙ ap (λ j. get_or c.notes (j + 1) 0) ee ∙ (thread_of k l hl).behind

    same_place : (j : ℕ) → j < suc (suc (length (list_of s l))) → get_or ns j 0 ≡ x → j ≡ suc (suc i)
    same_place j hj e = one_name d s.lists (lists_length k) (linked_of k).chains l j (suc (suc i)) (slot_low k l hl) hj (omega arith) (e ∙ ex)

    is_last : u ≡ x → suc i ≡ length (list_of s l)
    is_last q = let z = same_place (suc (length (list_of s l))) (omega arith) (sym behind_is ∙ q) in omega arith

    not_last : u ≢ x → suc i ≢ length (list_of s l)
    not_last n q = n (behind_is ∙ ap (λ j. get_or ns (suc j) 0) (sym q) ∙ sym ex)

    is_second : t ≡ x → suc (suc i) ≡ length (list_of s l)
    is_second q = let z = same_place (length (list_of s l)) (omega arith) (sym end_is ∙ q) in sym z

    not_second : t ≢ x → suc (suc i) ≢ length (list_of s l)
    not_second n q = n (end_is ∙ ap (λ j. get_or ns j 0) (sym q) ∙ sym ex)

    pub cut_last_holds : u ≡ x → Holds d (cut_last e a b c) (unlinked l i s)
    cut_last_holds q =
        rw ee
        (shrunk (cut_last (d.nodes + 2 * l) a b c)
        (room_note (room_note k.rep.room (d.nodes + 2 * l) a) (d.nodes + 2 * l + 1) b)
        (rw (ea, eb) (last_linked d c s.lists (linked_of k) k.rep.room l (slot_low k l hl) i hi (is_last q)))
        (take-set-le d.nodes (set c.notes (d.nodes + 2 * l) a) (d.nodes + 2 * l + 1) b (omega arith) ∙ take-set-le d.nodes c.notes (d.nodes + 2 * l) a (omega arith))
        (rw (ea, eb) (unlinked_last ns i c (let z = is_last q in omega arith))))

    module _ (y z : ℕ) (ey : y ≡ get_or c.links b 0) (ez : z ≡ get_or c.links x 0) (ne : u ≢ x) where
      more : suc i < length (list_of s l)
      more = let q = not_last ne in omega arith

      stored : with_link b z (with_link a y c) ≡ cut_inner (get_or ns i 0) (get_or ns (suc i) 0) (get_or ns (suc (suc i)) 0) c
      stored = rw (ez, ey, ex, ea, eb)

      room : Room d (with_link b z (with_link a y c))
      room = room_link (room_link k.rep.room a y) b z

      pub cut_second_holds : t ≡ x → Holds d (with_note e b (with_link b z (with_link a y c))) (unlinked l i s)
      cut_second_holds q =
          rw ee
          (shrunk (with_note (d.nodes + 2 * l) b (with_link b z (with_link a y c))) (room_note room (d.nodes + 2 * l) b)
          (subst (λ (w : Cells). Linked d w (set s.lists l (without i (list_of s l)))) (sym (ap₂ (λ (p : ℕ) (w : Cells). with_note (d.nodes + 2 * l) p w) eb stored))
          (second_linked d c s.lists (linked_of k) k.rep.room l (slot_low k l hl) i hi more (is_second q)))
          (take-set-le d.nodes c.notes (d.nodes + 2 * l) b (omega arith))
          (unlinked_second ns i c (let z = is_second q in omega arith) ∙ sym (ap₂ (λ (p : ℕ) (w : Cells). with_note (d.nodes + 2 * l) p w) eb stored)))

      pub cut_inner_holds : t ≢ x → Holds d (with_link b z (with_link a y c)) (unlinked l i s)
      cut_inner_holds q =
          shrunk (with_link b z (with_link a y c)) room
          (rw stored (inner_linked d c s.lists (linked_of k) k.rep.room l (slot_low k l hl) i hi more (not_second q)))
          refl
          (unlinked_inner ns i c (let z = not_last ne in omega arith) (let z = not_second q in omega arith) ∙ sym stored)

-- ---- all lists empty

empty_lists : (f : List ℕ → ℕ) → f [] ≡ 0 → (n : ℕ) → sum_of f (replicate n []) ≡ 0
empty_lists f e zero = refl
empty_lists f e (suc n) = omega (arith, empty_lists f e n)

-- the ends of the first lists are their own records, and nothing else has changed
pub record Clearing (d : Size) (c₀ c : Cells) (x : ℕ) : Type 0 where
  pub room : Room d c
  pub done : (i : ℕ) → d.nodes ≤ i → i < x → get_or c.notes i 0 ≡ i
  pub links : c.links ≡ c₀.links
  pub notes : take d.nodes c.notes ≡ take d.nodes c₀.notes

pub clear_none : (d : Size) (c : Cells) → Room d c → Clearing d c c d.nodes
clear_none d c r = record { room = r; done = λ i h g. absurd (omega arith); links = refl; notes = refl }

pub clear_one : (d : Size) (c₀ c : Cells) (x : ℕ) → Clearing d c₀ c x → d.nodes ≤ x → x < records d → Clearing d c₀ (with_note x x c) (x + 1)
clear_one d c₀ c x k n h =
    record { room = room_note k.room x x; done = λ i hn hi. go i hn hi (ℕ_discrete i x); links = k.links; notes = take-set-le d.nodes c.notes x x n ∙ k.notes }
  where
    go : (i : ℕ) → d.nodes ≤ i → i < x + 1 → Dec (i ≡ x) → get_or (set c.notes x x) i 0 ≡ i
    go i hn hi (yes q) = rw q (get_or-set_same c.notes x x 0 (rw k.room.notes h))
    go i hn hi (no q) = get_or-set_other c.notes x i x 0 q ∙ k.done i hn (omega arith)

module _ (d : Size) (c₀ c : Cells) (x : ℕ) (g : records d ≤ x) (k : Clearing d c₀ c x) where
  none_there : Linked d c (replicate d.slots [])
  none_there =
      record {
        count = length-replicate d.slots [];
        threads = λ l h. subst (λ (xs : List ℕ). Thread d.nodes c l xs) (sym (get_or-replicate d.slots l [] [] h))
            (record { links = λ i g. absurd (omega arith); end = k.done (d.nodes + 2 * l) (omega arith) (omega arith); behind = k.done (d.nodes + 2 * l + 1) (omega arith) (omega arith) });
        chains = record { apart = λ y. omega (arith, empty_lists (occ y) refl d.slots); under = empty_lists (over d.nodes) refl d.slots };
      }

  -- the notes are the blockers and the ends
  all_notes : length (take d.nodes c₀.notes) ≡ d.nodes → c.notes ≡ take d.nodes c₀.notes ++ tabulate (2 * d.slots) (λ i. length (take d.nodes c₀.notes) + i)
  all_notes e =
      sym (take-append-drop d.nodes c.notes)
      ∙ ap₂ ◌++◌ k.notes
      (sym (tabulate_is (2 * d.slots) (λ i. length (take d.nodes c₀.notes) + i) (drop d.nodes c.notes) 0 (length-drop d.nodes c.notes ∙ omega (arith, k.room.notes))
      (λ i h. ap (λ n. n + i) e ∙ sym (get_or-drop d.nodes c.notes i 0 ∙ k.done (d.nodes + i) (omega arith) (omega arith)))))

  pub clear_holds : length (take d.nodes c₀.notes) ≡ d.nodes → Holds d c (emptied d.slots (shown d c₀))
  unfolding shown emptied
  clear_holds e = held_as d c (replicate d.slots []) _ k.room none_there (same_watches refl k.notes (same_cells k.links (all_notes e)))
    where
      same_cells : {ls ls' ns ns' : List ℕ} → ls ≡ ls' → ns ≡ ns' → ◌≡◌ {A = Cells} (record { links = ls; notes = ns }) (record { links = ls'; notes = ns' })
      same_cells el en = rw (el, en)

module _ (m n : ℕ) (w : List ℕ) where
  abbrev size : Size
  size = record { slots = m; nodes = n }

  abbrev there : Cells
  there = cells_of (first_chunks 2 (n + 2 * m) w)

  pub found_room : m ≤ 2 * max_variables → n ≤ 2 * max_clauses → Room (record { slots = m; nodes = n }) (cells_of (first_chunks 2 (n + 2 * m) w))
  found_room hm hn =
      let r = first_chunks 2 (n + 2 * m) w in
      record { slots = hm; nodes = hn; links = links_length r ∙ length-first_chunks (n + 2 * m) w; notes = notes_length r ∙ length-first_chunks (n + 2 * m) w }

  pub new_holds : (c : Cells) (x : ℕ) → n + 2 * m ≤ x → Clearing (record { slots = m; nodes = n }) (cells_of (first_chunks 2 (n + 2 * m) w)) c x
      → Holds (record { slots = m; nodes = n }) c (emptied m (found m n w))
  new_holds c x g k =
      clear_holds size there c x g k
      (length-take-le n there.notes (omega (arith, notes_length (first_chunks 2 (n + 2 * m) w), length-first_chunks (n + 2 * m) w)))
