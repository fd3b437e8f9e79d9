-- Where a clause lies, and what a store does to the clauses.
use Rattle.std.specs.Prelude.{ℕ, zero, suc, ◌+◌, ◌-◌, ◌≤◌, ◌<◌, ◌≡◌, ◌≢◌, ◌&&◌, refl, List, [], ◌∷◌, ◌++◌, length, get_or, set, take, drop, map, leb, ltb}
use Rattle.std.specs.List.{range_with_len}
use Rattle.std.proofs.Common.{arith, zero-add, add-zero, sym, ap, ap₂, ◌∙◌, length-set, length-drop, length-take-le, drop-set-lt, length-append, get_or-set_same, get_or-set_other}
use Rattle.std.proofs.Math.Decide.{ℕ_discrete, dec_le}
use Rattle.std.proofs.Math.Seq.{take-set-lt}
use Rattle.std.proofs.lemmas.List.{take-set-le, drop-set-add, take_more_set}
use Rattle.std.proofs.lemmas.List.FromFn.{length-map-range_with_len, get_or-map-range_with_len, map-range_with_len_more, fill_by_all}
use Rattle.model.specs.Script.{Config}
use Rattle.model.specs.State.{Store}
use Rattle.model.specs.Store.{stored_literals, has_room}
use Rattle.store.specs.View.{Clauses, clause_of, next_lit, no_clauses, lit_set, lit_pushed, closed, discarded, found, clause_in, shown, Rep, Sound, Counted}

-- ---- of the clauses alone

pub stored_more : (xs : List (List ℕ)) (y : List ℕ) → stored_literals (xs ++ (y ∷ [])) ≡ stored_literals xs + length y
unfolding stored_literals
stored_more [] y = omega arith
stored_more (x ∷ xs) y = omega (arith, stored_more xs y)

-- what a store counts after each step
module _ (s : Clauses) where
  pub after_push : (p : ℕ) → Counted (lit_pushed s p) (length s.clauses) (stored_literals s.clauses) (length s.pushed + 1)
  after_push p = record { clauses = refl; literals = refl; pushed = length-append s.pushed (p ∷ []) }

  pub after_close : Counted (closed s) (length s.clauses + 1) (next_lit s) 0
  after_close = record { clauses = length-append s.clauses (s.pushed ∷ []); literals = stored_more s.clauses s.pushed; pushed = refl }

  pub after_discard : Counted (discarded s) (length s.clauses) (stored_literals s.clauses) 0
  after_discard = record { clauses = refl; literals = refl; pushed = refl }

  pub after_start : Counted (no_clauses s) 0 0 0
  unfolding stored_literals
  after_start = record { clauses = refl; literals = refl; pushed = refl }

-- what `has_room` tells is the definition's has_room
pub room_is : (cfg : Config) (st : Store) (s : Clauses) (c : List ℕ) → st.clauses ≡ s.clauses → cfg.max_clauses ≡ s.room → cfg.max_literals ≡ s.lit_room
    → has_room cfg st c ≡ (ltb (length s.clauses) s.room && leb (stored_literals s.clauses + length c) s.lit_room)
unfolding has_room
room_is cfg st s c e m l = rw (e, m, l)

-- ---- a part of the literals and a store after it, before it, and in it

part-set_after : (n a : ℕ) (xs : List ℕ) (j v : ℕ) → a + n ≤ j → take n (drop a (set xs j v)) ≡ take n (drop a xs)
part-set_after n a xs j v h =
    let at : a + (j - a) ≡ j = omega arith in
    ap (λ (k : ℕ). take n (drop a (set xs k v))) (sym at) ∙ ap (take n) (drop-set-add a xs (j - a) v) ∙ take-set-le n (drop a xs) (j - a) v (omega arith)

part-set_before : (n a : ℕ) (xs : List ℕ) (j v : ℕ) → j < a → take n (drop a (set xs j v)) ≡ take n (drop a xs)
part-set_before n a xs j v h = ap (take n) (drop-set-lt a xs j v h)

part-set_in : (n a : ℕ) (xs : List ℕ) (i v : ℕ) → i < n → take n (drop a (set xs (a + i) v)) ≡ set (take n (drop a xs)) i v
part-set_in n a xs i v h = ap (take n) (drop-set-add a xs i v) ∙ take-set-lt n (drop a xs) i v h

map_same : (n : ℕ) (f g : ℕ → List ℕ) → ((c : ℕ) → c < n → f c ≡ g c) → map f (range_with_len 0 n) ≡ map g (range_with_len 0 n)
map_same n f g e =
    sym (fill_by_all f (map g (range_with_len 0 n)) n [] (length-map-range_with_len g 0 n) (λ k h. get_or-map-range_with_len g 0 n k k [] h (omega arith) ∙ sym (e k h)))

-- the literals of the clauses from a on, by where each one starts
stored_from : (n a : ℕ) (f : ℕ → List ℕ) (at : ℕ → ℕ) → ((c : ℕ) → c < a + n → at c + length (f c) ≡ at (c + 1)) → stored_literals (map f (range_with_len a n)) + at a ≡ at (a + n)
unfolding stored_literals
stored_from zero a f at s = rw (zero-add, add-zero a)
stored_from (suc n) a f at s =
    let e : at (a + 1 + n) ≡ at (a + suc n) = ap at (omega arith) in
    omega (arith, s a (omega arith), stored_from n (a + 1) f at (λ c h. s c (omega arith)))

-- ---- over the cells

module _ (S L : List ℕ) (n u p : ℕ) (r : Rep S L n u p) where
  start_below : (c : ℕ) → c ≤ n → get_or S c 0 ≤ u
  start_below c g = omega (arith, r.rising c n g (omega arith), r.last)

  start_before : (c : ℕ) → c < n → get_or S c 0 ≤ get_or S (c + 1) 0
  start_before c g = r.rising c (c + 1) (omega arith) (omega arith)

  part-length : (c : ℕ) → c < n → length (clause_in S L c) ≡ get_or S (c + 1) 0 - get_or S c 0
  part-length c g =
      length-take-le (get_or S (c + 1) 0 - get_or S c 0) (drop (get_or S c 0) L)
      (rw (length-drop (get_or S c 0) L) (omega (arith, start_below (c + 1) (omega arith), r.literals)))

  -- the counts are those of the clauses
  clauses-length : length (shown S L n u p).clauses ≡ n
  unfolding shown
  clauses-length = length-map-range_with_len (clause_in S L) 0 n

  pushed_length : length (shown S L n u p).pushed ≡ p
  unfolding shown
  pushed_length = length-take-le p (drop u L) (rw (length-drop u L) (omega (arith, r.literals)))

  literals-stored : stored_literals (shown S L n u p).clauses ≡ u
  unfolding shown
  literals-stored =
      let z : 0 + n ≡ n = omega arith in
      let e = stored_from n 0 (clause_in S L) (λ c. get_or S c 0) (λ c g. omega (arith, part-length c (omega arith), start_before c (omega arith))) in
      omega (arith, r.first, r.last, e, ap (λ (k : ℕ). get_or S k 0) z)

  next_lit_is : next_lit (shown S L n u p) ≡ u + p
  next_lit_is = ap₂ ◌+◌ literals-stored pushed_length

  clause_is : (c : ℕ) → c < n → clause_of (shown S L n u p) c ≡ clause_in S L c
  unfolding shown
  clause_is c g = get_or-map-range_with_len (clause_in S L) 0 n c c [] g (omega arith)

  -- a store in clause c
  module _ (c i q : ℕ) (g : c < n) (h : get_or S c 0 + i < get_or S (c + 1) 0) where
    stored : List ℕ
    stored = set L (get_or S c 0 + i) q

    other_clause : (o : ℕ) → o < n → o ≢ c → Dec (c ≤ o) → clause_in S stored o ≡ clause_in S L o
    unfolding stored
    other_clause o b ne (yes k) =
        part-set_before (get_or S (o + 1) 0 - get_or S o 0) (get_or S o 0) L (get_or S c 0 + i) q (omega (arith, r.rising (c + 1) o (omega arith) (omega arith)))
    other_clause o b ne (no k) =
        part-set_after (get_or S (o + 1) 0 - get_or S o 0) (get_or S o 0) L (get_or S c 0 + i) q
        (omega (arith, start_before o b, r.rising (o + 1) c (omega arith) (omega arith)))

    clause_after : (o : ℕ) → o < n → Dec (o ≡ c) → get_or (lit_set (shown S L n u p) c i q).clauses o [] ≡ clause_in S stored o
    unfolding stored
    clause_after o b (yes e) =
        let k : c < length (shown S L n u p).clauses = rw clauses-length g in
        rw (e, get_or-set_same (shown S L n u p).clauses c (set (clause_of (shown S L n u p) c) i q) [] k, clause_is c g)
        (sym (part-set_in (get_or S (c + 1) 0 - get_or S c 0) (get_or S c 0) L i q (omega arith)))
    clause_after o b (no ne) =
        get_or-set_other (shown S L n u p).clauses c o (set (clause_of (shown S L n u p) c) i q) [] ne ∙ clause_is o b ∙ sym (other_clause o b ne (dec_le c o))

    set_clauses : (lit_set (shown S L n u p) c i q).clauses ≡ (shown S stored n u p).clauses
    unfolding shown
    set_clauses =
        fill_by_all (clause_in S stored) (lit_set (shown S L n u p) c i q).clauses n []
        (length-set (shown S L n u p).clauses c (set (clause_of (shown S L n u p) c) i q) ∙ clauses-length)
        (λ o b. clause_after o b (ℕ_discrete o c))

    set_shown : shown S stored n u p ≡ lit_set (shown S L n u p) c i q
    unfolding shown stored
    set_shown =
        ap₂ (λ (cs : List (List ℕ)) (l : List ℕ × ℕ). record { clauses = cs; pushed = l.0; room = length S - 1; lit_room = l.1; start_cells = S; lit_cells = stored })
        (sym set_clauses)
        (ap₂ (λ (l : List ℕ) (k : ℕ). (l, k))
        (part-set_before p u L (get_or S c 0 + i) q (omega (arith, start_below (c + 1) (omega arith))))
        (length-set L (get_or S c 0 + i) q))

  -- a store of one more literal
  module _ (q : ℕ) (g : u + p < length L) where
    push_clauses : map (clause_in S (set L (u + p) q)) (range_with_len 0 n) ≡ map (clause_in S L) (range_with_len 0 n)
    push_clauses =
        map_same n (clause_in S (set L (u + p) q)) (clause_in S L)
        (λ c b. part-set_after (get_or S (c + 1) 0 - get_or S c 0) (get_or S c 0) L (u + p) q (omega (arith, start_before c b, start_below (c + 1) (omega arith))))

    push_literals : take (p + 1) (drop u (set L (u + p) q)) ≡ take p (drop u L) ++ (q ∷ [])
    push_literals =
        let b : p < length (drop u L) = rw (length-drop u L) (omega arith) in
        ap (take (p + 1)) (drop-set-add u L p q) ∙ take_more_set (drop u L) p q b

    push_shown : shown S (set L (u + p) q) n u (p + 1) ≡ lit_pushed (shown S L n u p) q
    unfolding shown
    push_shown = rw (push_clauses, push_literals, length-set L (u + p) q) (ap (λ (k : ℕ). record { clauses = (shown S L n u p).clauses; pushed = (shown S L n u p).pushed ++ (q ∷ []); room = length S - 1; lit_room = length L; start_cells = S; lit_cells = set L k q }) (sym next_lit_is))

  -- one more clause
  module _ (g : n + 1 < length S) where
    ended : List ℕ
    ended = set S (n + 1) (u + p)

    start_old : (c : ℕ) → c ≤ n → get_or ended c 0 ≡ get_or S c 0
    unfolding ended
    start_old c b = get_or-set_other S (n + 1) c (u + p) 0 (λ e. omega arith)

    start_new : get_or ended (n + 1) 0 ≡ u + p
    unfolding ended
    start_new = get_or-set_same S (n + 1) (u + p) 0 g

    last_clause : clause_in ended L n ≡ take p (drop u L)
    last_clause =
        let k : u + p - u ≡ p = omega arith in
        rw (start_old n (omega arith), start_new, r.last, k)

    close_shown : shown (set S (n + 1) (u + p)) L (n + 1) (u + p) 0 ≡ closed (shown S L n u p)
    unfolding shown ended
    close_shown =
        let old = map_same n (clause_in ended L) (clause_in S L) (λ c b. rw (start_old c (omega arith), start_old (c + 1) (omega arith))) in
        rw (length-set S (n + 1) (u + p))
        (ap (λ (cs : List (List ℕ)). record { clauses = cs; pushed = []; room = length S - 1; lit_room = length L; start_cells = ended; lit_cells = L })
        (map-range_with_len_more (clause_in ended L) 0 n n (omega arith) ∙ ap₂ (λ (xs : List (List ℕ)) (y : List ℕ). xs ++ (y ∷ [])) old last_clause)
        ∙ ap₂ (λ (m x : ℕ). record { clauses = (closed (shown S L n u p)).clauses; pushed = []; room = length S - 1; lit_room = length L; start_cells = set S (m + 1) x; lit_cells = L }) (sym clauses-length) (sym next_lit_is))

    ended_rising : (c e : ℕ) → c ≤ e → e ≤ n + 1 → Dec (e ≡ n + 1) → Dec (c ≡ n + 1) → get_or ended c 0 ≤ get_or ended e 0
    ended_rising c e b k (yes q) (yes o) = rw (q, o) (omega arith)
    ended_rising c e b k (yes q) (no o) =
        let d : c ≤ n = omega arith in
        rw (q, start_new, start_old c d) (omega (arith, start_below c d))
    ended_rising c e b k (no q) o =
        let d : e ≤ n = omega arith in
        let f : c ≤ n = omega arith in
        rw (start_old c f, start_old e d) (r.rising c e b d)

    close_rep : Rep (set S (n + 1) (u + p)) L (n + 1) (u + p) 0
    unfolding ended
    close_rep =
        record {
          room = rw (length-set S (n + 1) (u + p)) r.room;
          lit_room = r.lit_room;
          clauses = rw (length-set S (n + 1) (u + p)) g;
          literals = omega (arith, r.literals);
          first = start_old 0 (omega arith) ∙ r.first;
          last = start_new;
          rising = λ c e b k. ended_rising c e b k (ℕ_discrete e (n + 1)) (ℕ_discrete c (n + 1));
        }

-- ---- of the value that the cells show

module _ {S L : List ℕ} {n u p : ℕ} (r : Rep S L n u p) {s : Clauses} (e : shown S L n u p ≡ s) where
  pub count_is : length s.clauses ≡ n
  count_is = rw (← e) (clauses-length S L n u p r)

  pub stored_is : stored_literals s.clauses ≡ u
  stored_is = rw (← e) (literals-stored S L n u p r)

  pub pushed_is : length s.pushed ≡ p
  pushed_is = rw (← e) (pushed_length S L n u p r)

  pub starts_room : s.room + 1 ≡ length S
  unfolding shown
  starts_room = rw (← e) (omega (arith, r.clauses))

  pub lit_room_is : s.lit_room ≡ length L
  unfolding shown
  lit_room_is = rw (← e)

  pub cells_are : (S ≡ s.start_cells) × (L ≡ s.lit_cells)
  unfolding shown
  cells_are = rw (← e) (refl, refl)

  pub counted : Counted s n u p
  counted = record { clauses = count_is; literals = stored_is; pushed = pushed_is }

  -- the counts tell of room what the clauses do
  pub has_room_is : (k : ℕ) → (ltb n (length S - 1) && leb (u + k) (length L)) ≡ (ltb (length s.clauses) s.room && leb (stored_literals s.clauses + k) s.lit_room)
  has_room_is k =
      let room : s.room ≡ length S - 1 = omega (arith, starts_room) in
      rw (count_is, stored_is, lit_room_is, room)

  pub is_sound : Sound s
  unfolding shown
  is_sound = rw (← e)
      (record {
        room = omega (arith, r.room);
        lit_room = r.lit_room;
        start_cells = omega (arith, r.clauses);
        lit_cells = refl;
        clauses = rw (clauses-length S L n u p r) (omega (arith, r.clauses));
        literals = rw (next_lit_is S L n u p r) r.literals;
        first = r.first;
        last = rw (clauses-length S L n u p r, literals-stored S L n u p r) r.last;
        rising = rw (clauses-length S L n u p r) r.rising;
        parts = rw (clauses-length S L n u p r) (clause_is S L n u p r);
        pushed = rw (pushed_length S L n u p r, literals-stored S L n u p r);
      })

  module _ (c : ℕ) (g : c < length s.clauses) where
    pub part_is : clause_in S L c ≡ clause_of s c
    part_is = rw (← e) (sym (clause_is S L n u p r c (omega (arith, count_is))))

    module _ (i : ℕ) (h : i < length (clause_of s c)) where
      lit_inside : get_or S c 0 + i < get_or S (c + 1) 0
      lit_inside = omega (arith, ap length part_is, part-length S L n u p r c (omega (arith, count_is)))

      pub lit_within : get_or S c 0 + i < length L
      lit_within = omega (arith, lit_inside, start_below S L n u p r (c + 1) (omega (arith, count_is)), r.literals)

      pub set_shows : (q : ℕ) → shown S (set L (get_or S c 0 + i) q) n u p ≡ lit_set s c i q
      unfolding stored
      set_shows q = rw (← e) (set_shown S L n u p r c i q (omega (arith, count_is)) lit_inside)

  pub push_within : next_lit s < s.lit_room → u + p < length L
  push_within g = omega (arith, g, stored_is, pushed_is, lit_room_is)

  pub push_keeps : (q : ℕ) → next_lit s < s.lit_room → Rep S (set L (u + p) q) n u (p + 1)
  push_keeps q g =
      let b = push_within g in
      record {
        room = r.room;
        lit_room = rw (length-set L (u + p) q) r.lit_room;
        clauses = r.clauses;
        literals = rw (length-set L (u + p) q) (omega arith);
        first = r.first;
        last = r.last;
        rising = r.rising;
      }

  pub push_shows : (q : ℕ) → next_lit s < s.lit_room → shown S (set L (u + p) q) n u (p + 1) ≡ lit_pushed s q
  push_shows q g = rw (← e) (push_shown S L n u p r q (push_within g))

  module _ (g : length s.clauses < s.room) where
    pub close_within : n + 1 < length S
    close_within = omega (arith, count_is, starts_room)

    pub close_shows : shown (set S (n + 1) (u + p)) L (n + 1) (u + p) 0 ≡ closed s
    close_shows = rw (← e) (close_shown S L n u p r close_within)

    pub close_keeps : Rep (set S (n + 1) (u + p)) L (n + 1) (u + p) 0
    close_keeps = close_rep S L n u p r close_within

  pub discard_shows : shown S L n u 0 ≡ discarded s
  unfolding shown
  discard_shows = rw (← e)

-- ---- the empty store

pub new_shows : (S L : List ℕ) → shown (set S 0 0) L 0 0 0 ≡ no_clauses (found S L)
unfolding shown
new_shows S L = rw (length-set S 0 0)
