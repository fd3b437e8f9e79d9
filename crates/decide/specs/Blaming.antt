-- `blame` back along the trail, one literal at a time, with the marks and the final clause in their blocks.
use Rattle.std.specs.Prelude.{ℕ, suc, ◌+◌, ◌-◌, ◌*◌, ◌≤◌, ◌<◌, ◌≡◌, refl, ◌≢◌, ◌⊎◌, true, false, List, [], ◌∷◌, ◌++◌, reverse, length, get_or, take, drop, set, eqb}
use Rattle.std.proofs.Common.{arith, sym, ap, subst, ◌∙◌, inl, inr, length-append, length-set, take-suc, length-take-le, get_or-set_other, eq-eqb, ne_eqb}
use mathlib.Core.List.Memᴰ.{head as here}
use mathlib.Core.List.Memᴰ.{tail as there}
use Rattle.std.proofs.Math.Seq.{slice, slice_empty, length-sets}
use Rattle.std.proofs.lemmas.List.{drop-append-le}
use borrow.Author.Tests.{eqb-false}
use Rattle.model.specs.Lit.{var, neg, no_reason}
use Rattle.model.specs.State.{Watch, Store, VarState, level_lit, reason_lit, reason_rest, decision_level}
use Rattle.model.specs.Minimise.{is_seen}
use Rattle.model.specs.Final.{mem, insert, mark, blame}
use Rattle.lawbase.specs.Basics.{◌∈◌, Every, split, same?, on?, less?, neg_range, var-neg, var_range}
use Rattle.lawbase.specs.WellFormed as formed
use Rattle.lawbase.specs.WellFormed.{Implies, Proper}
use Rattle.assign.proofs.Lists.{get_or_in, from_reverse, index-take, reverse_snoc}
use Rattle.assign.proofs.Reading.{entry_at, trail_range}
use Rattle.assign.proofs.Reasons.{ground_implied, level_below}
use Rattle.learning.specs.Marks.{Cells}
use Rattle.learning.proofs.Marks.{cells-set, clear_same}
use Rattle.learning.specs.Parts.{upper}
use Rattle.learning.proofs.Blame.{blame_cases}
use Rattle.store.specs.View.{Clauses, clause_of}
use Rattle.litset.specs.View.{Members, Insertable, inserted, with_items, flagged}
use Rattle.litset.specs.Mem.{insert_old, insert_new}
use Rattle.litset.specs.Items.{inserted_with}
use Rattle.trail.specs.View.{Assignment, LitsOf}
use Rattle.state.specs.Reasons.{Reason, others, lits_from}

-- the store of these clauses; nothing here reads its watches
abbrev pub stored : Clauses → Store
stored c = record { clauses = c.clauses; watches = [] }

-- ---- one literal

-- what `blame` does at the literal l
pub record Passed (t : Assignment) (c : Clauses) (m m' : List ℕ) (f f' : Members) (l : ℕ) : Type 0 where
  pub unseen : is_seen m l ≡ false → (m' ≡ m) × (f' ≡ f)
  pub decision : is_seen m l ≡ true → reason_lit t.vars l ≡ no_reason → (m' ≡ set m (var l) 0) × (f' ≡ inserted f (neg l))
  pub implied : is_seen m l ≡ true → reason_lit t.vars l ≢ no_reason → (m' ≡ set (mark t.vars (others c (reason_lit t.vars l)) m) (var l) 0) × (f' ≡ f)

-- what it asks: the final clause has room, and the reason is a clause of literals
pub record Passable (t : Assignment) (c : Clauses) (m : List ℕ) (f : Members) (l : ℕ) : Type 0 where
  pub range : l < 2 * length t.vars.values
  pub marks : length m ≡ length t.vars.values
  pub room : is_seen m l ≡ true → reason_lit t.vars l ≡ no_reason → Insertable f (neg l)
  pub reason : reason_lit t.vars l ≢ no_reason → Reason (length t.vars.values) c (reason_lit t.vars l)

-- ---- `blame` takes the same step

module _ (st : Store) (vs : VarState) (l : ℕ) (ls m out : List ℕ) where
  blame-unseen : is_seen m l ≡ false → blame st vs (l ∷ ls) m out ≡ blame st vs ls m out
  unfolding blame
  blame-unseen s = rw (s, blame)

  blame_decision : is_seen m l ≡ true → reason_lit vs l ≡ no_reason → blame st vs (l ∷ ls) m out ≡ blame st vs ls (set m (var l) 0) (insert out (neg l))
  unfolding blame
  blame_decision s e = rw (s, eq-eqb (reason_lit vs l) no_reason e, blame)

  blame_implied : is_seen m l ≡ true → reason_lit vs l ≢ no_reason
      → blame st vs (l ∷ ls) m out ≡ blame st vs ls (set (mark vs (reason_rest st vs l) m) (var l) 0) out
  unfolding blame
  blame_implied s ne = rw (s, ne_eqb (reason_lit vs l) no_reason ne, blame)

blame_none : (st : Store) (vs : VarState) (m out : List ℕ) → blame st vs [] m out ≡ out
unfolding blame
blame_none st vs m out = refl

insert_longer : (out : List ℕ) (l : ℕ) → length out ≤ length (insert out l)
insert_longer out l = split (on? (mem l out)) (λ e. rw (insert_old out l e) (omega arith)) (λ e. rw (insert_new out l e) (omega (arith, length-append out (l ∷ []))))

-- it reads no watches
pub blame_same : (cs : List (List ℕ)) (w w' : List (List Watch)) (vs : VarState) (u m out : List ℕ)
    → blame (record { clauses = cs; watches = w }) vs u m out ≡ blame (record { clauses = cs; watches = w' }) vs u m out
unfolding blame
blame_same cs w w' vs [] m out = refl
blame_same cs w w' vs (l ∷ u) m out =
    let st : Store = record { clauses = cs; watches = w } in
    let st' : Store = record { clauses = cs; watches = w' } in
    blame_cases (λ (o : List ℕ). o ≡ blame st' vs (l ∷ u) m out) st vs l u m out
    (λ s. blame_same cs w w' vs u m out ∙ sym (blame-unseen st' vs l u m out s))
    (λ s e. blame_same cs w w' vs u (set m (var l) 0) (insert out (neg l)) ∙ sym (blame_decision st' vs l u m out s e))
    (λ s ne. blame_same cs w w' vs u (set (mark vs (reason_rest st vs l) m) (var l) 0) out ∙ sym (blame_implied st' vs l u m out s ne))

-- the clause grows
blame_longer : (st : Store) (vs : VarState) (u m out : List ℕ) → length out ≤ length (blame st vs u m out)
unfolding blame
blame_longer st vs [] m out = omega arith
blame_longer st vs (l ∷ u) m out =
    blame_cases (λ o. length out ≤ length o) st vs l u m out
    (λ s. blame_longer st vs u m out)
    (λ s e. omega (arith, blame_longer st vs u (set m (var l) 0) (insert out (neg l)), insert_longer out (neg l)))
    (λ s e. blame_longer st vs u (set (mark vs (reason_rest st vs l) m) (var l) 0) out)

-- and begins as it did
pub record Begins (p : ℕ) (c : List ℕ) : Type 0 where
  pub rest : List ℕ
  pub is : c ≡ p ∷ rest

pub blame-begins : (st : Store) (vs : VarState) (u m : List ℕ) (p : ℕ) (out : List ℕ) → Begins p out → Begins p (blame st vs u m out)
unfolding blame
blame-begins st vs [] m p out b = b
blame-begins st vs (l ∷ u) m p out b =
    blame_cases (Begins p) st vs l u m out
    (λ s. blame-begins st vs u m p out b)
    (λ s e. blame-begins st vs u (set m (var l) 0) p (insert out (neg l)) (insert_begins (neg l)))
    (λ s e. blame-begins st vs u (set (mark vs (reason_rest st vs l) m) (var l) 0) p out b)
  where
    insert_begins : (k : ℕ) → Begins p (insert out k)
    insert_begins k = split (on? (mem k out))
        (λ e. rw (insert_old out k e) b)
        (λ e. record { rest = b.rest ++ (k ∷ []); is = insert_new out k e ∙ ap (λ o. o ++ (k ∷ [])) b.is })

-- ---- what is still to be walked, newest first

abbrev pub left : VarState → ℕ → ℕ → List ℕ
left vs start i = reverse (slice start i vs.trail)

module _ (vs : VarState) (start : ℕ) where
  left_more : (k : ℕ) → start ≤ k → k < length vs.trail → left vs start (suc k) ≡ get_or vs.trail k 0 ∷ left vs start k
  left_more k a b =
      ap (λ t. reverse (drop start t)) (take-suc vs.trail k 0 b)
      ∙ ap reverse (drop-append-le start (take k vs.trail) (get_or vs.trail k 0 ∷ []) (omega (arith, length-take-le k vs.trail (omega arith))))
      ∙ reverse_snoc (slice start k vs.trail) (get_or vs.trail k 0)

  left_none : left vs start start ≡ []
  left_none = ap reverse (slice_empty start vs.trail)

-- ---- which marks are set

-- a literal of variable v stands on the trail from place `start` on, in front of i
pub record Stands (vs : VarState) (start i v : ℕ) : Type 0 where
  pub at : ℕ
  pub least : start ≤ at
  pub most : at < i
  pub variable : var (get_or vs.trail at 0) ≡ v

-- each variable that is marked was marked at the start, or is still to come
abbrev pub Ahead : VarState → ℕ → List ℕ → ℕ → List ℕ → Type 0
Ahead vs start first i seen = (v : ℕ) → 0 < get_or seen v 0 → (0 < get_or first v 0) ⊎ Stands vs start i v

mark-cells : (vs : VarState) (qs m : List ℕ) → Cells m → Cells (mark vs qs m)
unfolding mark
mark-cells vs [] m c = c
mark-cells vs (q ∷ qs) m c = split (on? (eqb (level_lit vs q) 0))
    (λ e. rw (e, mark) (mark-cells vs qs m c))
    (λ e. rw (e, mark) (mark-cells vs qs (set m (var q) 1) (cells-set m (var q) 1 (omega arith) c)))

pub mark-length : (vs : VarState) (qs m : List ℕ) → length (mark vs qs m) ≡ length m
unfolding mark
mark-length vs [] m = refl
mark-length vs (q ∷ qs) m = split (on? (eqb (level_lit vs q) 0))
    (λ e. rw (e, mark) (mark-length vs qs m))
    (λ e. rw (e, mark) (mark-length vs qs (set m (var q) 1) ∙ length-set m (var q) 1))

-- a mark was there, or is that of a literal above level 0
record Since (vs : VarState) (qs m : List ℕ) (v : ℕ) : Type 0 where
  literal : ℕ
  on : literal ∈ qs
  above : 0 < level_lit vs literal
  variable : var literal ≡ v

since_later : (vs : VarState) (q : ℕ) (qs m m' : List ℕ) (v : ℕ) → Since vs qs m' v → Since vs (q ∷ qs) m v
since_later vs q qs m m' v s = record { literal = s.literal; on = there s.on; above = s.above; variable = s.variable }

mark_since : (vs : VarState) (qs m : List ℕ) (v : ℕ) → 0 < get_or (mark vs qs m) v 0 → (0 < get_or m v 0) ⊎ Since vs qs m v
unfolding mark
mark_since vs [] m v h = inl h
mark_since vs (q ∷ qs) m v h = split (on? (eqb (level_lit vs q) 0))
    (λ e. split (mark_since vs qs m v (rw (e, mark) at h)) inl (λ s. inr (since_later vs q qs m m v s)))
    (λ e. split (mark_since vs qs (set m (var q) 1) v (rw (e, mark) at h))
    (λ g. split (same? v (var q))
    (λ y. inr (record { literal = q; on = here refl; above = (let ne = eqb-false (level_lit vs q) 0 e in split (less? 0 (level_lit vs q)) (λ z. z) (λ z. absurd (ne (omega arith)))); variable = sym y }))
    (λ ne. inl (rw (get_or-set_other m (var q) v 1 0 ne) at g)))
    (λ s. inr (since_later vs q qs m (set m (var q) 1) v s)))

module _ {n : ℕ} {cs : List (List ℕ)} {vs : VarState} (a : formed.Assignment n cs vs) (start : ℕ) (first : start ≡ get_or vs.limits 0 0) (before : List ℕ)
    (k : ℕ) (inside : k < length vs.trail) where
  abbrev l : ℕ
  l = get_or vs.trail k 0

  -- a variable that is still to come, where that of l is not marked
  further : (v : ℕ) → v ≢ var l → Stands vs start (suc k) v → Stands vs start k v
  further v ne s =
      record {
        at = s.at;
        least = s.least;
        most = split (same? s.at k)
            (λ e. absurd (ne (sym s.variable ∙ ap (λ j. var (get_or vs.trail j 0)) e)))
            (λ e. split (less? s.at k) (λ h. h) (λ h. absurd (e (omega (arith, s.most)))));
        variable = s.variable;
      }

  ahead_unseen : (m : List ℕ) → Cells m → is_seen m l ≡ false → Ahead vs start before (suc k) m → Ahead vs start before k m
  ahead_unseen m c s h v g = split (h v g) inl (λ (t : Stands vs start (suc k) v). inr (further v
      (λ e.
      let z : get_or m v 0 ≡ get_or m (var l) 0 = ap (λ j. get_or m j 0) e in
      eqb-false (get_or m (var l) 0) 1 s (omega (arith, c (var l))))
      t))

  ahead_cleared : (m : List ℕ) → Cells m → Ahead vs start before (suc k) m → Ahead vs start before k (set m (var l) 0)
  ahead_cleared m c h v g = split (same? v (var l))
      (λ e.
      let z : get_or (set m (var l) 0) v 0 ≡ get_or (set m (var l) 0) (var l) 0 = ap (λ j. get_or (set m (var l) 0) j 0) e in
      absurd (eqb-false (get_or (set m (var l) 0) (var l) 0) 1 (clear_same m (var l)) (omega (arith, cells-set m (var l) 0 (omega arith) c (var l)))))
      (λ ne. split (h v (rw (get_or-set_other m (var l) v 0 0 ne) at g)) inl (λ (t : Stands vs start (suc k) v). inr (further v ne t)))

  -- the reason of l: what it marks stands in front of l
  implies : reason_lit vs l ≢ no_reason → Implies cs (reason_lit vs l) l (reverse (take k vs.trail))
  implies ne = ground_implied (entry_at a k inside).grounds ne

  since_stands : reason_lit vs l ≢ no_reason → (m : List ℕ) (v : ℕ) → Since vs (drop 1 (get_or cs (reason_lit vs l) [])) m v → Stands vs start (suc k) v
  since_stands ne m v s =
      let q = s.literal in
      let t = index-take 0 k vs.trail (from_reverse (take k vs.trail) ((implies ne).false_rest q s.on)) in
      let e : var (get_or vs.trail t.at 0) ≡ var q = ap var t.value ∙ var-neg q in
      let b : 0 < level_lit vs (get_or vs.trail t.at 0) = subst (λ j. 0 < get_or vs.levels j 0) (sym e) s.above in
      record {
        at = t.at;
        least = omega (arith, level_below a t.at 0 t.inside b);
        most = omega (arith, t.most);
        variable = e ∙ s.variable;
      }

  ahead_marked : reason_lit vs l ≢ no_reason → (m : List ℕ) → Ahead vs start before (suc k) m
      → Ahead vs start before (suc k) (mark vs (drop 1 (get_or cs (reason_lit vs l) [])) m)
  ahead_marked ne m h v g = split (mark_since vs (drop 1 (get_or cs (reason_lit vs l) [])) m v g) (h v) (λ s. inr (since_stands ne m v s))

-- ---- the walk

pub flagged-length : (flags ls : List ℕ) → length (flagged flags ls) ≡ length flags
unfolding flagged
flagged-length flags [] = refl
flagged-length flags (l ∷ ls) = flagged-length (set flags l 1) ls ∙ length-set flags l 1

-- what the walk asks: it goes to the first limit, and the final clause has room for what `blame` gives
pub record Blamable (t : Assignment) (c : Clauses) (m : List ℕ) (f : Members) (start : ℕ) : Type 0 where
  pub formed : formed.Assignment (length t.vars.values) c.clauses t.vars
  pub proper : Every (Proper (length t.vars.values)) c.clauses
  pub deep : 0 < decision_level t.vars
  pub first : start ≡ get_or t.vars.limits 0 0
  pub marks : length m ≡ length t.vars.values
  pub cells : Cells m
  pub flags : length f.flag_cells ≡ 2 * length t.vars.values
  pub members : length f.item_cells ≡ length t.vars.values + 1
  pub items : f ≡ with_items f f.items
  pub room : length (blame (stored c) t.vars (upper t.vars start) m f.items) ≤ suc (length t.vars.values)

-- what it leaves: the clause, and no mark that was not there before
pub record Blamed (t : Assignment) (c : Clauses) (m m' : List ℕ) (f f' : Members) (start : ℕ) : Type 0 where
  pub finals : f' ≡ with_items f (blame (stored c) t.vars (upper t.vars start) m f.items)
  pub sized : length m' ≡ length m
  pub cells : Cells m'
  pub only : (v : ℕ) → 0 < get_or m' v 0 → 0 < get_or m v 0

-- the trail is walked from its end to place i
pub record Blaming (t : Assignment) (c : Clauses) (m : List ℕ) (f : Members) (start i : ℕ) (m' : List ℕ) (f' : Members) : Type 0 where
  pub items : f' ≡ with_items f f'.items
  pub rest : blame (stored c) t.vars (left t.vars start i) m' f'.items ≡ blame (stored c) t.vars (upper t.vars start) m f.items
  pub sized : length m' ≡ length m
  pub cells : Cells m'
  pub ahead : Ahead t.vars start m i m'
  pub least : start ≤ i
  pub inside : i ≤ length t.vars.trail

pub blaming_down : {t : Assignment} {c : Clauses} {m : List ℕ} {f : Members} {start i : ℕ} {m' : List ℕ} {f' : Members} → Blaming t c m f start i m' f' → start < i
    → Blaming t c m f start (suc (i - 1)) m' f'
blaming_down {t} {c} {m} {f} {start} {i} {m'} {f'} b h = subst (λ (j : ℕ). Blaming t c m f start j m' f') (omega arith) b

module _ {t : Assignment} {c : Clauses} {m : List ℕ} {f : Members} {start : ℕ} (b : Blamable t c m f start) where
  abbrev st : Store
  st = stored c

  abbrev vs : VarState
  vs = t.vars

  module _ {k : ℕ} {m' : List ℕ} {f' : Members} (i : Blaming t c m f start (suc k) m' f') (low : start ≤ k) where
    abbrev q : ℕ
    q = get_or vs.trail k 0

    within : k < length vs.trail
    within = omega (arith, i.inside)

    turn : blame st vs (q ∷ left vs start k) m' f'.items ≡ blame st vs (upper vs start) m f.items
    turn = ap (λ (u : List ℕ). blame st vs u m' f'.items) (sym (left_more vs start k low within)) ∙ i.rest

    because : reason_lit vs q ≢ no_reason → Implies c.clauses (reason_lit vs q) q (reverse (take k vs.trail))
    because ne = implies b.formed start b.first [] k within ne

    proper : reason_lit vs q ≢ no_reason → Proper (length vs.values) (clause_of c (reason_lit vs q))
    proper ne = b.proper (clause_of c (reason_lit vs q)) (get_or_in c.clauses (reason_lit vs q) [] (because ne).stored)

    clause-lits : reason_lit vs q ≢ no_reason → LitsOf (length vs.values) (clause_of c (reason_lit vs q))
    clause-lits ne j g =
        let l = clause_of c (reason_lit vs q) in
        var_range (get_or l j 0) (length vs.values) ((proper ne).range (get_or l j 0) (get_or_in l j 0 g))

    range : q < 2 * length vs.values
    range = trail_range b.formed q (get_or_in vs.trail k 0 within)

    same_flags : length f'.flag_cells ≡ length f.flag_cells
    same_flags = ap (λ (s : Members). length s.flag_cells) i.items ∙ flagged-length f.flag_cells f'.items

    same_members : length f'.item_cells ≡ length f.item_cells
    same_members = ap (λ (s : Members). length s.item_cells) i.items ∙ length-sets f.item_cells 0 f'.items

    -- what is inserted stays
    fits : is_seen m' q ≡ true → reason_lit vs q ≡ no_reason → mem (neg q) f'.items ≡ false → length f'.items < length f'.item_cells
    fits s e n =
        let o = insert f'.items (neg q) in
        let z : blame st vs (left vs start k) (set m' (var q) 0) o ≡ blame st vs (upper vs start) m f.items =
        sym (blame_decision st vs q (left vs start k) m' f'.items s e) ∙ turn in
        omega (
          arith,
          b.room,
          b.members,
          same_members,
          ap length z,
          blame_longer st vs (left vs start k) (set m' (var q) 0) o,
          ap length (insert_new f'.items (neg q) n),
          length-append f'.items (neg q ∷ []),
        )

    pub blaming_asks : {l : ℕ} → l ≡ get_or t.vars.trail k 0 → Passable t c m' f' l
    blaming_asks e =
        rw e
        (record {
          range = range;
          marks = i.sized ∙ b.marks;
          room = λ s z. record { low = omega (arith, neg_range q (length vs.values) range, same_flags, b.flags); room = fits s z };
          reason = λ ne.
              record {
                stored = (because ne).stored;
                some = omega (arith, (proper ne).two);
                lits = lits_from (length vs.values) (clause_of c (reason_lit vs q)) 1 (clause-lits ne);
              };
        })

    turned : {m'' : List ℕ} {f'' : Members} → f'' ≡ with_items f f''.items
        → blame st vs (q ∷ left vs start k) m' f'.items ≡ blame st vs (left vs start k) m'' f''.items
        → length m'' ≡ length m'
        → Cells m''
        → Ahead vs start m k m''
        → Blaming t c m f start k m'' f''
    turned e g s h a =
        record {
          items = e;
          rest = sym g ∙ turn;
          sized = s ∙ i.sized;
          cells = h;
          ahead = a;
          least = low;
          inside = omega (arith, within);
        }

    module _ {m'' : List ℕ} {f'' : Members} {l : ℕ} (at : l ≡ get_or t.vars.trail k 0) (passed : Passed t c m' m'' f' f'' l) where
      o : Passed t c m' m'' f' f'' q
      o = subst (Passed t c m' m'' f' f'') at passed

      pub blaming_turns : Blaming t c m f start k m'' f''
      blaming_turns =
          let n = mark vs (reason_rest st vs q) m' in
          let u = left vs start k in
          split (on? (is_seen m' q))
          (λ s. split (same? (reason_lit vs q) no_reason)
          (λ e.
          let d = o.decision s e in
          rw (d.0, d.1)
          (turned (ap (λ (y : Members). inserted y (neg q)) i.items ∙ inserted_with f f'.items (neg q))
          (blame_decision st vs q u m' f'.items s e)
          (length-set m' (var q) 0)
          (cells-set m' (var q) 0 (omega arith) i.cells)
          (ahead_cleared b.formed start b.first m k within m' i.cells i.ahead)))
          (λ ne.
          let d = o.implied s ne in
          rw (d.0, d.1)
          (turned i.items
          (blame_implied st vs q u m' f'.items s ne)
          (length-set n (var q) 0 ∙ mark-length vs (reason_rest st vs q) m')
          (cells-set n (var q) 0 (omega arith) (mark-cells vs (reason_rest st vs q) m' i.cells))
          (ahead_cleared b.formed start b.first m k within n (mark-cells vs (reason_rest st vs q) m' i.cells)
          (ahead_marked b.formed start b.first m k within ne m' i.ahead)))))
          (λ s.
          let d = o.unseen s in
          rw (d.0, d.1)
          (turned i.items (blame-unseen st vs q u m' f'.items s) refl i.cells (ahead_unseen b.formed start b.first m k within m' i.cells s i.ahead)))

  pub blaming_ends : {i : ℕ} {m' : List ℕ} {f' : Members} → Blaming t c m f start i m' f' → i ≤ start → Blamed t c m m' f f' start
  blaming_ends {i} {m'} {f'} k h =
      let e : i ≡ start = omega (arith, k.least) in
      let u : left vs start i ≡ [] = ap (left vs start) e ∙ left_none vs start in
      let o : f'.items ≡ blame st vs (upper vs start) m f.items = sym (blame_none st vs m' f'.items) ∙ ap (λ (r : List ℕ). blame st vs r m' f'.items) (sym u) ∙ k.rest in
      record {
        finals = k.items ∙ ap (with_items f) o;
        sized = k.sized;
        cells = k.cells;
        only = λ v g. split (k.ahead v g) (λ y. y) (λ (s : Stands vs start i v). absurd (omega (arith, s.least, s.most)));
      }
