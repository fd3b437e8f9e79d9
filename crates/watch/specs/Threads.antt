-- The lists that the cells hold, before and after a change of links.
use Rattle.std.specs.Prelude.{ℕ, zero, suc, ◌+◌, ◌-◌, ◌*◌, ◌≤◌, ◌<◌, ◌≡◌, refl, ◌≢◌, List, [], ◌∷◌, ◌++◌, length, get_or, set}
use Rattle.std.proofs.Common.{arith, sym, ap, subst, ◌∙◌, length-append}
use Rattle.std.proofs.Math.Decide.{ℕ_discrete, dec_le}
use Rattle.std.proofs.Math.ListN.{length-set, get_or-append}
use Rattle.std.proofs.Math.Seq.{get_or-set_same, get_or-set_other}
use Rattle.std.proofs.lemmas.List.{get_or_at}
use Rattle.region.specs.Table.{tabulate_is}
use Rattle.watch.specs.Count.{occ, occ_at}
use Rattle.watch.specs.Follow.{follow_is}
use Rattle.watch.specs.View.{Cells, names, without, with_note, cut_last, cut_inner, cells_appended, Free, Chains, records, chain, chains, Thread, Linked, Room}
use Rattle.watch.specs.Laws.{length_without, without_before, without_after, one_place, node_below, list_once, not_other, list_small, chains-append, chains-without}
use Rattle.watch.specs.declared.Size.{Size}

-- ---- each link has its own record

module _ (d : Size) (ls : List (List ℕ)) (n : length ls ≡ d.slots) (k : Chains d.nodes ls) where
  pub node_low : (l i : ℕ) → l < d.slots → i < length (get_or ls l []) → get_or (get_or ls l []) i 0 < d.nodes
  node_low l i hl hi = node_below d.nodes ls k.under l i (rw n hl) hi

  pub name_low : (l i : ℕ) → l < d.slots → i < length (names d.nodes l (get_or ls l [])) → get_or (names d.nodes l (get_or ls l [])) i 0 < records d
  name_low l zero hl hi = omega arith
  name_low l (suc zero) hl hi = omega arith
  name_low l (suc (suc i)) hl hi = omega (arith, node_low l i hl (omega arith))

  pub one_name : (l i j : ℕ) → l < d.slots → i < length (names d.nodes l (get_or ls l [])) → j < length (names d.nodes l (get_or ls l []))
      → get_or (names d.nodes l (get_or ls l [])) i 0 ≡ get_or (names d.nodes l (get_or ls l [])) j 0 → i ≡ j
  one_name l zero zero hl hi hj e = refl
  one_name l zero (suc zero) hl hi hj e = absurd (omega arith)
  one_name l zero (suc (suc j)) hl hi hj e = absurd (omega (arith, node_low l j hl (omega arith)))
  one_name l (suc zero) zero hl hi hj e = absurd (omega arith)
  one_name l (suc zero) (suc zero) hl hi hj e = refl
  one_name l (suc zero) (suc (suc j)) hl hi hj e = absurd (omega (arith, node_low l j hl (omega arith)))
  one_name l (suc (suc i)) zero hl hi hj e = absurd (omega (arith, node_low l i hl (omega arith)))
  one_name l (suc (suc i)) (suc zero) hl hi hj e = absurd (omega (arith, node_low l i hl (omega arith)))
  one_name l (suc (suc i)) (suc (suc j)) hl hi hj e =
      ap (λ m. suc (suc m)) (one_place (get_or ls l []) (λ y. list_once d.nodes ls k l y (rw n hl)) i j (omega arith) (omega arith) e)

  pub other_name : (l m i j : ℕ) → l < d.slots → m < d.slots → l ≢ m → i < length (names d.nodes l (get_or ls l [])) → j < length (names d.nodes m (get_or ls m []))
      → get_or (names d.nodes l (get_or ls l [])) i 0 ≢ get_or (names d.nodes m (get_or ls m [])) j 0
  other_name l m zero zero hl hm ne hi hj e = ne (omega arith)
  other_name l m zero (suc zero) hl hm ne hi hj e = omega arith
  other_name l m zero (suc (suc j)) hl hm ne hi hj e = omega (arith, node_low m j hm (omega arith))
  other_name l m (suc zero) zero hl hm ne hi hj e = omega arith
  other_name l m (suc zero) (suc zero) hl hm ne hi hj e = ne (omega arith)
  other_name l m (suc zero) (suc (suc j)) hl hm ne hi hj e = omega (arith, node_low m j hm (omega arith))
  other_name l m (suc (suc i)) zero hl hm ne hi hj e = omega (arith, node_low l i hl (omega arith))
  other_name l m (suc (suc i)) (suc zero) hl hm ne hi hj e = omega (arith, node_low l i hl (omega arith))
  other_name l m (suc (suc i)) (suc (suc j)) hl hm ne hi hj e =
      let none : occ (get_or (get_or ls l []) i 0) (get_or ls m []) ≡ 0 = not_other d.nodes ls k l i m (rw n hl) (omega arith) (rw n hm) (λ q. ne (sym q)) in
      let some : 1 ≤ occ (get_or (get_or ls l []) i 0) (get_or ls m []) = rw e (occ_at (get_or ls m []) j (omega arith)) in
      omega arith

-- ---- the lists by their links

pub lists_are : (d : Size) (c : Cells) (ls : List (List ℕ)) → Linked d c ls → chains d c ≡ ls
lists_are d c ls k =
    tabulate_is d.slots (chain d c) ls [] k.count (λ l h.
    let t = k.threads l h in
    let xs = get_or ls l [] in
    follow_is c.links d.nodes (get_or c.notes (d.nodes + 2 * l) 0) xs (d.nodes + 2 * l) (d.nodes + 2 * l + 1)
    (list_small d.nodes ls k.chains l (rw k.count h))
    t.links
    (λ i hi e. let same = one_name d ls k.count k.chains l i (length xs) h (omega arith) (omega arith) (e ∙ t.end) in omega arith)
    (sym t.end))

-- ---- list l changes, in the cells c

module _ (d : Size) (c : Cells) (ls : List (List ℕ)) (k : Linked d c ls) (z : Room d c) (l : ℕ) (hl : l < d.slots) where
  abbrev xs : List ℕ
  xs = get_or ls l []

  abbrev ns : List ℕ
  ns = names d.nodes l (get_or ls l [])

  within : l < length ls
  within = rw k.count hl

  -- a link of the list has a cell
  pub link_low : (i : ℕ) → i < length (names d.nodes l (get_or ls l [])) → get_or (names d.nodes l (get_or ls l [])) i 0 < length c.links
  link_low i hi = rw z.links (name_low d ls k.count k.chains l i hl hi)

  differ : (i j : ℕ) → i < length ns → j < length ns → i ≢ j → get_or ns i 0 ≢ get_or ns j 0
  differ i j hi hj q e = q (one_name d ls k.count k.chains l i j hl hi hj e)

  end_low : d.nodes + 2 * l < length c.notes
  end_low = rw z.notes (let h : d.nodes + 2 * l < records d = omega arith in h)

  behind_low : d.nodes + 2 * l + 1 < length c.notes
  behind_low = rw z.notes (let h : d.nodes + 2 * l + 1 < records d = omega arith in h)

  -- list l is ys in the cells c', whose links are as they were but at the list's own, and whose notes are but at its two records and of nodes
  changed : (c' : Cells) (ys : List ℕ) → Chains d.nodes (set ls l ys) → Thread d.nodes c' l ys
      → ((y : ℕ) → ((i : ℕ) → i < length ns → y ≢ get_or ns i 0) → get_or c'.links y 0 ≡ get_or c.links y 0)
      → ((y : ℕ) → d.nodes ≤ y → y ≢ d.nodes + 2 * l → y ≢ d.nodes + 2 * l + 1 → get_or c'.notes y 0 ≡ get_or c.notes y 0)
      → Linked d c' (set ls l ys)
  changed c' ys ch t fl fn =
      record { count = length-set ls l ys ∙ k.count; threads = λ j hj. go j hj (ℕ_discrete j l); chains = ch }
    where
      other : (j : ℕ) → j < d.slots → j ≢ l → Thread d.nodes c' j (get_or ls j [])
      other j hj q =
          let o = k.threads j hj in
          record {
            links = λ i hi. fl (get_or (names d.nodes j (get_or ls j [])) i 0) (λ m hm. other_name d ls k.count k.chains j l i m hj hl q (omega arith) hm) ∙ o.links i hi;
            end = fn (d.nodes + 2 * j) (omega arith) (omega arith) (omega arith) ∙ o.end;
            behind = fn (d.nodes + 2 * j + 1) (omega arith) (omega arith) (omega arith) ∙ o.behind;
          }

      go : (j : ℕ) → j < d.slots → Dec (j ≡ l) → Thread d.nodes c' j (get_or (set ls l ys) j [])
      go j hj (yes q) =
          subst (λ m. Thread d.nodes c' m (get_or (set ls l ys) m [])) (sym q)
          (subst (λ (zs : List ℕ). Thread d.nodes c' l zs) (sym (get_or-set_same ls l ys [] within)) t)
      go j hj (no q) = subst (λ (zs : List ℕ). Thread d.nodes c' j zs) (sym (get_or-set_other ls l j ys [] q)) (other j hj q)

  -- ---- a node comes

  module _ (x b : ℕ) (hx : x < d.nodes) (free : Free x ls) where
    abbrev came : Cells
    came = cells_appended (d.nodes + 2 * l) x b c

    -- the notes with the blocker, and with the end moved on
    abbrev notes₁ : List ℕ
    notes₁ = set c.notes x b

    abbrev notes₂ : List ℕ
    notes₂ = set (set c.notes x b) (d.nodes + 2 * l) (get_or c.notes (d.nodes + 2 * l + 1) 0)

    size : length (xs ++ (x ∷ [])) ≡ suc (length xs)
    size = length-append xs (x ∷ []) ∙ omega arith

    -- the links that were there
    before : (i : ℕ) → i < length ns → get_or (names d.nodes l (xs ++ (x ∷ []))) i 0 ≡ get_or ns i 0
    before i hi = get_or-append ns (x ∷ []) 0 i hi

    last_is : get_or c.notes (d.nodes + 2 * l) 0 ≡ get_or ns (length xs) 0
    last_is = (k.threads l hl).end

    came_link : (y : ℕ) → y ≢ get_or ns (length xs) 0 → get_or came.links y 0 ≡ get_or c.links y 0
    unfolding cells_appended
    came_link y q = get_or-set_other c.links (get_or c.notes (d.nodes + 2 * l) 0) y x 0 (λ e. q (e ∙ last_is))

    came_last : get_or came.links (get_or ns (length xs) 0) 0 ≡ x
    unfolding cells_appended
    came_last = rw last_is (get_or-set_same c.links (get_or ns (length xs) 0) x 0 (link_low (length xs) (omega arith)))

    came_note : (y : ℕ) → d.nodes ≤ y → y ≢ d.nodes + 2 * l → y ≢ d.nodes + 2 * l + 1 → get_or came.notes y 0 ≡ get_or c.notes y 0
    unfolding cells_appended
    came_note y h p q =
        get_or-set_other notes₂ (d.nodes + 2 * l + 1) y x 0 q
        ∙ get_or-set_other notes₁ (d.nodes + 2 * l) y (get_or c.notes (d.nodes + 2 * l + 1) 0) 0 p
        ∙ get_or-set_other c.notes x y b 0 (omega arith)

    came_end : get_or came.notes (d.nodes + 2 * l) 0 ≡ get_or ns (suc (length xs)) 0
    unfolding cells_appended
    came_end =
        get_or-set_other notes₂ (d.nodes + 2 * l + 1) (d.nodes + 2 * l) x 0 (omega arith)
        ∙ get_or-set_same notes₁ (d.nodes + 2 * l) (get_or c.notes (d.nodes + 2 * l + 1) 0) 0 (rw length-set end_low)
        ∙ (k.threads l hl).behind

    came_behind : get_or came.notes (d.nodes + 2 * l + 1) 0 ≡ x
    unfolding cells_appended
    came_behind = get_or-set_same notes₂ (d.nodes + 2 * l + 1) x 0 (rw (length-set, length-set) behind_low)

    came_thread : Thread d.nodes came l (xs ++ (x ∷ []))
    came_thread =
        record {
          links = λ i hi. go i (omega (arith, size)) (ℕ_discrete i (length xs));
          end = came_end ∙ sym (ap (λ i. get_or (names d.nodes l (xs ++ (x ∷ []))) i 0) size ∙ before (suc (length xs)) (omega arith));
          behind = came_behind ∙ sym (ap (λ i. get_or (names d.nodes l (xs ++ (x ∷ []))) (suc i) 0) size ∙ get_or_at xs x [] 0 (length xs) refl);
        }
      where
        go : (i : ℕ) → i < suc (length xs) → Dec (i ≡ length xs) → get_or came.links (get_or (names d.nodes l (xs ++ (x ∷ []))) i 0) 0 ≡ get_or (xs ++ (x ∷ [])) i 0
        go i h (yes q) = rw (q, before (length xs) (omega arith)) (came_last ∙ sym (get_or_at xs x [] 0 (length xs) refl))
        go i h (no q) =
            rw (before i (omega arith))
            (came_link (get_or ns i 0) (differ i (length xs) (omega arith) (omega arith) q)
            ∙ (k.threads l hl).links i (omega arith)
            ∙ sym (get_or-append xs (x ∷ []) 0 i (omega arith)))

    pub append_linked : Linked d (cells_appended (d.nodes + 2 * l) x b c) (set ls l (get_or ls l [] ++ (x ∷ [])))
    append_linked =
        changed came (xs ++ (x ∷ [])) (chains-append ls l x within d.nodes hx free k.chains) came_thread
        (λ y f. came_link y (f (length xs) (omega arith))) came_note

  -- ---- the node at place i goes

  module _ (i : ℕ) (hi : i < length (get_or ls l [])) where
    rest : length (without i xs) ≡ length xs - 1
    rest = omega (arith, length_without i xs hi)

    shorter : Chains d.nodes (set ls l (without i xs))
    shorter = chains-without ls l i within hi d.nodes k.chains

    -- the links up to the one behind that to the node, and from there on
    to_cut : (j : ℕ) → j < suc (suc i) → get_or (names d.nodes l (without i xs)) j 0 ≡ get_or ns j 0
    to_cut j h = without_before (suc (suc i)) ns j h (omega arith)

    past_cut : (j : ℕ) → suc (suc i) ≤ j → get_or (names d.nodes l (without i xs)) j 0 ≡ get_or ns (suc j) 0
    past_cut j h = without_after (suc (suc i)) ns j h

    -- it was the last
    pub last_linked : suc i ≡ length (get_or ls l [])
        → Linked d (cut_last (d.nodes + 2 * l) (get_or (names d.nodes l (get_or ls l [])) i 0) (get_or (names d.nodes l (get_or ls l [])) (suc i) 0) c) (set ls l (without i (get_or ls l [])))
    last_linked e =
        let t = k.threads l hl in
        let e₀ = d.nodes + 2 * l in
        let short : length (without i xs) ≡ i = omega (arith, rest) in
        changed (cut_last e₀ (get_or ns i 0) (get_or ns (suc i) 0) c) (without i xs) shorter
        (record {
          links = λ j hj. rw (to_cut j (omega arith)) (t.links j (omega arith) ∙ sym (without_before i xs j (omega arith) hi));
          end = get_or-set_other (set c.notes e₀ (get_or ns i 0)) (e₀ + 1) e₀ (get_or ns (suc i) 0) 0 (omega arith) ∙ get_or-set_same c.notes e₀ (get_or ns i 0) 0 end_low ∙ sym (rw short (to_cut i (omega arith)));
          behind = get_or-set_same (set c.notes e₀ (get_or ns i 0)) (e₀ + 1) (get_or ns (suc i) 0) 0 (rw length-set behind_low) ∙ sym (rw short (to_cut (suc i) (omega arith)));
        })
        (λ y f. refl)
        (λ y h p q. get_or-set_other (set c.notes e₀ (get_or ns i 0)) (e₀ + 1) y (get_or ns (suc i) 0) 0 q ∙ get_or-set_other c.notes e₀ y (get_or ns i 0) 0 p)

    -- another follows it
    module _ (more : suc i < length (get_or ls l [])) where
      abbrev past : Cells
      past = cut_inner (get_or ns i 0) (get_or ns (suc i) 0) (get_or ns (suc (suc i)) 0) c

      abbrev links₁ : List ℕ
      links₁ = set c.links (get_or ns i 0) (get_or c.links (get_or ns (suc i) 0) 0)

      past_link : (y : ℕ) → y ≢ get_or ns i 0 → y ≢ get_or ns (suc i) 0 → get_or past.links y 0 ≡ get_or c.links y 0
      past_link y p q =
          get_or-set_other links₁ (get_or ns (suc i) 0) y (get_or c.links (get_or ns (suc (suc i)) 0) 0) 0 q
          ∙ get_or-set_other c.links (get_or ns i 0) y (get_or c.links (get_or ns (suc i) 0) 0) 0 p

      past_at : get_or past.links (get_or ns i 0) 0 ≡ get_or xs (suc i) 0
      past_at =
          get_or-set_other links₁ (get_or ns (suc i) 0) (get_or ns i 0) (get_or c.links (get_or ns (suc (suc i)) 0) 0) 0 (differ i (suc i) (omega arith) (omega arith) (omega arith))
          ∙ get_or-set_same c.links (get_or ns i 0) (get_or c.links (get_or ns (suc i) 0) 0) 0 (link_low i (omega arith))
          ∙ (k.threads l hl).links (suc i) more

      past_after : suc (suc i) < length xs → get_or past.links (get_or ns (suc i) 0) 0 ≡ get_or xs (suc (suc i)) 0
      past_after h =
          get_or-set_same links₁ (get_or ns (suc i) 0) (get_or c.links (get_or ns (suc (suc i)) 0) 0) 0 (rw length-set (link_low (suc i) (omega arith))) ∙ (k.threads l hl).links (suc (suc i)) h

      past_links : (j : ℕ) → j < length (without i xs) → get_or past.links (get_or (names d.nodes l (without i xs)) j 0) 0 ≡ get_or (without i xs) j 0
      past_links j hj = go (ℕ_discrete j i) (ℕ_discrete j (suc i))
        where
          here : suc j < length xs
          here = omega (arith, rest)

          far : j ≢ i → j ≢ suc i → Dec (j ≤ i) → get_or past.links (get_or (names d.nodes l (without i xs)) j 0) 0 ≡ get_or (without i xs) j 0
          far p q (yes h) =
              rw (to_cut j (omega arith))
              (past_link (get_or ns j 0) (differ j i (omega arith) (omega arith) p) (differ j (suc i) (omega arith) (omega arith) q)
              ∙ (k.threads l hl).links j (omega arith) ∙ sym (without_before i xs j (omega arith) hi))
          far p q (no h) =
              rw (past_cut j (omega arith))
              (past_link (get_or ns (suc j) 0) (differ (suc j) i (omega (arith, here)) (omega arith) (omega arith)) (differ (suc j) (suc i) (omega (arith, here)) (omega arith) (omega arith))
              ∙ (k.threads l hl).links (suc j) here ∙ sym (without_after i xs j (omega arith)))

          go : Dec (j ≡ i) → Dec (j ≡ suc i) → get_or past.links (get_or (names d.nodes l (without i xs)) j 0) 0 ≡ get_or (without i xs) j 0
          go (yes p) r = rw (p, to_cut i (omega arith)) (past_at ∙ sym (without_after i xs i (omega arith)))
          go (no p) (yes q) = rw (q, to_cut (suc i) (omega arith)) (past_after (omega (arith, here)) ∙ sym (without_after i xs (suc i) (omega arith)))
          go (no p) (no q) = far p q (dec_le j i)

      past_behind : get_or c.notes (d.nodes + 2 * l + 1) 0 ≡ get_or (names d.nodes l (without i xs)) (suc (length (without i xs))) 0
      past_behind =
          (k.threads l hl).behind
          ∙ sym (past_cut (suc (length (without i xs))) (omega (arith, rest)) ∙ ap (λ j. get_or ns (suc j) 0) (let e : suc (length (without i xs)) ≡ length xs = omega (arith, rest) in e))

      -- the next is the last
      pub second_linked : suc (suc i) ≡ length (get_or ls l [])
          → Linked d (with_note (d.nodes + 2 * l) (get_or (names d.nodes l (get_or ls l [])) (suc i) 0) (cut_inner (get_or (names d.nodes l (get_or ls l [])) i 0) (get_or (names d.nodes l (get_or ls l [])) (suc i) 0) (get_or (names d.nodes l (get_or ls l [])) (suc (suc i)) 0) c)) (set ls l (without i (get_or ls l [])))
      second_linked e =
          let e₀ = d.nodes + 2 * l in
          let short : length (without i xs) ≡ suc i = omega (arith, rest) in
          changed (with_note e₀ (get_or ns (suc i) 0) past) (without i xs) shorter
          (record {
            links = past_links;
            end = get_or-set_same c.notes e₀ (get_or ns (suc i) 0) 0 end_low ∙ sym (rw short (to_cut (suc i) (omega arith)));
            behind = get_or-set_other c.notes e₀ (e₀ + 1) (get_or ns (suc i) 0) 0 (omega arith) ∙ past_behind;
          })
          (λ y f. past_link y (f i (omega arith)) (f (suc i) (omega arith)))
          (λ y h p q. get_or-set_other c.notes e₀ y (get_or ns (suc i) 0) 0 p)

      pub inner_linked : suc (suc i) ≢ length (get_or ls l [])
          → Linked d (cut_inner (get_or (names d.nodes l (get_or ls l [])) i 0) (get_or (names d.nodes l (get_or ls l [])) (suc i) 0) (get_or (names d.nodes l (get_or ls l [])) (suc (suc i)) 0) c) (set ls l (without i (get_or ls l [])))
      inner_linked e =
          changed past (without i xs) shorter
          (record {
            links = past_links;
            end = (k.threads l hl).end ∙ sym (past_cut (length (without i xs)) (omega (arith, rest)) ∙ ap (λ j. get_or ns j 0) (let e : suc (length (without i xs)) ≡ length xs = omega (arith, rest) in e));
            behind = past_behind;
          })
          (λ y f. past_link y (f i (omega arith)) (f (suc i) (omega arith)))
          (λ y h p q. refl)
