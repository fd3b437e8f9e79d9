-- Back along the trail: the last marked place, a literal resolved with its reason, the first UIP.
use Prim.Native.Nat.{ℕ, zero, suc, ◌-◌, ◌≤◌, ◌<◌}
use Rattle.std.proofs.Common.{arith, sym, ap, ◌∙◌, length-drop, take_all, ne_eqb}
use Rattle.std.specs.Prelude.{◌≡◌, ◌≢◌, true, false, length, get_or, set, take, drop, Option, Some}
use Rattle.std.proofs.Math.Path.{refl}
use mathlib.Core.List.{List, [], ◌∷◌, ◌++◌, reverse, reverse-cons}
use Rattle.model.specs.Lit.{var, neg, undef_lit, no_reason}
use Rattle.model.specs.State.{Store, VarState, Activity, decision_level, level_lit, reason_lit, reason_rest}
use Rattle.model.specs.Minimise.{is_seen}
use Rattle.model.specs.Analyze.{Resolvent, join, resolve}
use Rattle.lawbase.specs.Basics.{Every, split, on?, less?, var_range}
use Rattle.lawbase.specs.WellFormed.{Entries, Proper, Implies}
use Rattle.learning.proofs.Trail.{index_in}
use Rattle.learning.specs.Join.{Inv}
use Rattle.learning.specs.Turn.{less, stopped}
use Rattle.learning.proofs.Turn.{resolve_skip, resolve_stop, resolve_on, turn_skips, inv_less, top_seen, reason_of, turn_joins, not_empty}
use Rattle.clause.specs.Cells.{reason_at}
use Rattle.trail.specs.View.{Assignment, LitsOf}
use Rattle.store.specs.View.{Clauses, clause_of}
use Rattle.scratch.specs.Row.{Row, put}
use Rattle.scratch.specs.declared.Scratch.{Scratch}
use Rattle.analyze.specs.Places.{sets_first}
use Rattle.analyze.specs.Resolving.{so_far, Behind, Makes, Laid, laid, opened, behind_then, behind_items}
use Rattle.analyze.specs.Joining.{Sized, Joinable, sized_then, join_sized}

-- ---- the trail, from its place i back

unfoldable pub older : List ℕ → ℕ → List ℕ
older t zero = []
older t (suc i) = get_or t i 0 ∷ older t i

older_shift : (x : ℕ) (t : List ℕ) (i : ℕ) → older (x ∷ t) (suc i) ≡ older t i ++ (x ∷ [])
unfolding older
older_shift x t zero = refl
older_shift x t (suc i) = ap (λ l. get_or t i 0 ∷ l) (older_shift x t i)

pub older-all : (t : List ℕ) → older t (length t) ≡ reverse t
unfolding older
older-all [] = refl
older-all (x ∷ t) = older_shift x t (length t) ∙ ap (λ l. l ++ (x ∷ [])) (older-all t) ∙ sym (reverse-cons x t)

-- the last place before i whose literal is marked
unfoldable pub last_seen : List ℕ → List ℕ → ℕ → ℕ
last_seen m t zero = 0
last_seen m t (suc i) = elim (is_seen m (get_or t i 0)) [ true ↦ i | false ↦ last_seen m t i ]

last_yes : (m t : List ℕ) (i : ℕ) → is_seen m (get_or t i 0) ≡ true → last_seen m t (suc i) ≡ i
unfolding last_seen
last_yes m t i e = rw (e, last_seen)

last_no : (m t : List ℕ) (i : ℕ) → is_seen m (get_or t i 0) ≡ false → last_seen m t (suc i) ≡ last_seen m t i
unfolding last_seen
last_no m t i e = rw (e, last_seen)

-- the literal before place k is marked, or is not
pub last_here : (m t : List ℕ) (k : ℕ) → 0 < k → is_seen m (get_or t (k - 1) 0) ≡ true → last_seen m t k ≡ k - 1
last_here m t zero h e = absurd (omega arith)
last_here m t (suc k) h e = let s : suc k - 1 ≡ k = omega arith in rw s (last_yes m t k (rw s at e))

pub last_later : (m t : List ℕ) (k : ℕ) → 0 < k → is_seen m (get_or t (k - 1) 0) ≡ false → last_seen m t (k - 1) ≡ last_seen m t k
last_later m t zero h e = absurd (omega arith)
last_later m t (suc k) h e = let s : suc k - 1 ≡ k = omega arith in rw s (sym (last_no m t k (rw s at e)))

pub last_none : (m t : List ℕ) (k : ℕ) → k ≤ 0 → 0 ≡ last_seen m t k
unfolding last_seen
last_none m t zero h = refl
last_none m t (suc k) h = absurd (omega arith)

-- it is there: what stands behind it is passed over
pub record Found (n : ℕ) (st : Store) (vs : VarState) (k : Resolvent) (i j : ℕ) : Type 0 where
  pub inside : j < i
  pub seen : is_seen k.seen (get_or vs.trail j 0) ≡ true
  pub entries : Entries n st.clauses vs (get_or vs.trail j 0 ∷ older vs.trail j)
  pub inv : Inv n vs (get_or vs.trail j 0 ∷ older vs.trail j) k
  pub same : resolve st vs (older vs.trail i) k ≡ resolve st vs (get_or vs.trail j 0 ∷ older vs.trail j) k

module _ (n : ℕ) (st : Store) (vs : VarState) (k : Resolvent) (pos : 0 < k.path) where
  pub find : (i : ℕ) → Entries n st.clauses vs (older vs.trail i) → Inv n vs (older vs.trail i) k → Found n st vs k i (last_seen k.seen vs.trail i)
  unfolding older
  find zero w v = absurd (not_empty n vs k v pos)
  find (suc i) w v = split (on? (is_seen k.seen (get_or vs.trail i 0)))
      (λ e. rw (last_yes k.seen vs.trail i e) (record { inside = omega arith; seen = e; entries = w; inv = v; same = refl }))
      (λ e.
      let f = find i w.1 (turn_skips n st.clauses vs (get_or vs.trail i 0) (older vs.trail i) w k v e) in
      rw (last_no k.seen vs.trail i e)
      (record {
        inside = omega (arith, f.inside);
        seen = f.seen;
        entries = f.entries;
        inv = f.inv;
        same = resolve_skip st vs (get_or vs.trail i 0) (older vs.trail i) k e ∙ f.same;
      }))

-- ---- a turn

-- the store of these clauses; nothing here reads its watches
abbrev pub stored : Clauses → Store
stored c = record { clauses = c.clauses; watches = [] }

-- The literal at place i of the trail is the newest of the resolvent, and of the conflict's level.
pub record Turning (t : Assignment) (c : Clauses) (x : Scratch) (a : Activity) (path i : ℕ) : Type 0 where
  pub sized : Sized t x a
  pub first : 1 ≤ length x.buffer.items
  pub proper : Every (Proper (length t.vars.values)) c.clauses
  pub deep : 0 < decision_level t.vars
  pub inside : i < length t.vars.trail
  pub entries : Entries (length t.vars.values) c.clauses t.vars (get_or t.vars.trail i 0 ∷ older t.vars.trail i)
  pub inv : Inv (length t.vars.values) t.vars (get_or t.vars.trail i 0 ∷ older t.vars.trail i) (so_far x a path)
  pub seen : is_seen x.marks (get_or t.vars.trail i 0) ≡ true
  pub top : level_lit t.vars (get_or t.vars.trail i 0) ≡ decision_level t.vars

-- what p is resolved with
abbrev pub resolved : Assignment → Clauses → ℕ → Resolvent → Resolvent
resolved t c p k = join t.vars (drop 1 (clause_of c (reason_lit t.vars p))) (less p k)

abbrev pub Resolves : Assignment → Clauses → Scratch → Scratch → Activity → Activity → ℕ → ℕ → ℕ → Type 0
Resolves t c x x' a a' path path' i = Makes x x' a' path' (resolved t c (get_or t.vars.trail i 0) (so_far x a path))

rest_of : (l : List ℕ) → take (length l - 1) (drop 1 l) ≡ drop 1 l
rest_of l = take_all (length l - 1) (drop 1 l) (rw length-drop (omega arith))

module _ {t : Assignment} {c : Clauses} {x : Scratch} {a : Activity} {path i : ℕ} (u : Turning t c x a path i) where
  abbrev lit : ℕ
  lit = get_or t.vars.trail i 0

  pub turn_var : var lit < length t.vars.values
  turn_var = var_range lit (length t.vars.values) u.entries.0.range

  pub turn_marks : length x.marks ≡ length t.vars.values
  turn_marks = u.inv.sized

  module _ (more : 1 < path) where
    because : (reason_lit t.vars lit ≢ no_reason) × Implies c.clauses (reason_lit t.vars lit) lit (older t.vars.trail i)
    because = reason_of (length t.vars.values) c.clauses t.vars lit (older t.vars.trail i) u.entries (so_far x a path) u.inv u.seen u.top more u.deep

    -- the code reads it there
    pub turn_reason : {v : ℕ} {o : Option ℕ} → v ≡ var lit → o ≡ reason_at (get_or t.vars.reasons v 0) → o ≡ Some (reason_lit t.vars lit)
    turn_reason e f = f ∙ ap (λ (n : ℕ). reason_at (get_or t.vars.reasons n 0)) e ∙ rw (ne_eqb (reason_lit t.vars lit) no_reason because.0, reason_at)

    pub turn_is : {v r : ℕ} {o : Option ℕ} → v ≡ var lit → o ≡ reason_at (get_or t.vars.reasons v 0) → o ≡ Some r → r ≡ reason_lit t.vars lit
    turn_is e f g = cc (turn_reason e f, g)

    pub turn_some : 1 ≤ length (clause_of c (reason_lit t.vars lit))
    turn_some = omega (arith, (u.proper (clause_of c (reason_lit t.vars lit)) (index_in c.clauses (reason_lit t.vars lit) [] because.1.stored)).two)

    -- the mark is taken back
    pub turn_asks : {m l : List ℕ} → m ≡ set x.marks (var lit) 0 → l ≡ clause_of c (reason_lit t.vars lit)
        → Joinable t (record { marks = m; buffer = x.buffer; stack = x.stack; notes = x.notes }) a (path - 1) (take (length l - 1) (drop 1 l))
    turn_asks {m} {l} e f =
        rw (rest_of l, e, f)
        (record {
          sized = record { most = u.sized.most; buffer = u.sized.buffer; activity = u.sized.activity };
          first = u.first;
          stored = c.clauses;
          left = older t.vars.trail i;
          entries = u.entries.1;
          inv = inv_less (length t.vars.values) c.clauses t.vars lit (older t.vars.trail i) u.entries (so_far x a path) u.inv u.seen u.top;
          falsified = because.1.false_rest;
        })

-- ---- the walk

-- From place i of the trail on the walk ends with the resolvent `last`, in the buffer that x opened.
pub record Walking (t : Assignment) (c : Clauses) (x₀ : Scratch) (last : Resolvent) (i : ℕ) (x : Scratch) (a : Activity) (path : ℕ) : Type 0 where
  pub behind : Behind (opened x₀) x
  pub sized : Sized t x a
  pub proper : Every (Proper (length t.vars.values)) c.clauses
  pub deep : 0 < decision_level t.vars
  pub inside : i ≤ length t.vars.trail
  pub entries : Entries (length t.vars.values) c.clauses t.vars (older t.vars.trail i)
  pub inv : Inv (length t.vars.values) t.vars (older t.vars.trail i) (so_far x a path)
  pub pos : 0 < path
  pub same : resolve (stored c) t.vars (older t.vars.trail i) (so_far x a path) ≡ last

module _ {t : Assignment} {c : Clauses} {x₀ : Scratch} {last : Resolvent} {i : ℕ} {x : Scratch} {a : Activity} {path : ℕ} (w : Walking t c x₀ last i x a path) where
  abbrev k : Resolvent
  k = so_far x a path

  pub walk_first : 1 ≤ length x.buffer.items
  walk_first = omega (arith, behind_items w.behind)

  pub walk_marks : length x.marks ≡ length t.vars.values
  walk_marks = w.inv.sized

  -- the place that the code finds
  module _ {j : ℕ} (e : j ≡ last_seen x.marks t.vars.trail i) where
    found : Found (length t.vars.values) (stored c) t.vars k i j
    found = rw e (find (length t.vars.values) (stored c) t.vars k w.pos i w.entries w.inv)

    pub walk_falls : j < i
    walk_falls = found.inside

    found_top : level_lit t.vars (get_or t.vars.trail j 0) ≡ decision_level t.vars
    found_top = top_seen (length t.vars.values) c.clauses t.vars (get_or t.vars.trail j 0) (older t.vars.trail j) found.entries k found.inv w.pos found.seen

    pub walk_turns : Turning t c x a path j
    walk_turns =
        record {
          sized = w.sized;
          first = walk_first;
          proper = w.proper;
          deep = w.deep;
          inside = omega (arith, walk_falls, w.inside);
          entries = found.entries;
          inv = found.inv;
          seen = found.seen;
          top = found_top;
        }

    abbrev p : ℕ
    p = get_or t.vars.trail j 0

    -- its literal was resolved
    module _ (more : 1 < path) {x' : Scratch} {a' : Activity} {path' : ℕ} (m : Resolves t c x x' a a' path path' j) where
      kept : Inv (length t.vars.values) t.vars (older t.vars.trail j) (resolved t c p k) × (0 < (resolved t c p k).path)
      kept = turn_joins (length t.vars.values) c.clauses t.vars p (older t.vars.trail j) found.entries k found.inv found.seen found_top more (stored c) refl w.deep

      same_sized : length a'.activities ≡ length a.activities
      same_sized = ap (λ (r : Resolvent). length r.activity.activities) m.holds ∙ join_sized t.vars (reason_rest (stored c) t.vars p) (less p k)

      pub walk_goes_on : Walking t c x₀ last j x' a' path'
      walk_goes_on =
          record {
            behind = behind_then w.behind m.behind;
            sized = sized_then w.sized m.behind same_sized;
            proper = w.proper;
            deep = w.deep;
            inside = omega (arith, walk_falls, w.inside);
            entries = found.entries.1;
            inv = rw m.holds kept.0;
            pos = omega (arith, ap (λ (r : Resolvent). r.path) m.holds, kept.1);
            same = rw m.holds (sym (found.same ∙ resolve_on (stored c) t.vars p (older t.vars.trail j) k found.seen more) ∙ w.same);
          }

    -- it is the first UIP
    module _ (few : path ≤ 1) where
      is_last : stopped p k ≡ last
      is_last = sym (found.same ∙ resolve_stop (stored c) t.vars p (older t.vars.trail j) k found.seen few) ∙ w.same

      pub walk_ends : {m : List ℕ} {b : Row} → m ≡ set x.marks (var p) 0 → b ≡ put x.buffer 0 (neg p)
          → Laid x₀ (record { marks = m; buffer = b; stack = x.stack; notes = x.notes }) a last
      walk_ends e g =
          record {
            scratch =
                rw (e, g)
                (ap (λ (y : Scratch). record { marks = set x.marks (var p) 0; buffer = put y.buffer 0 (neg p); stack = y.stack; notes = y.notes }) w.behind.is
                ∙ ap (λ (cs : List ℕ). record { marks = set x.marks (var p) 0; buffer = record { items = neg p ∷ w.behind.added; cells = cs }; stack = x₀.stack; notes = x₀.notes })
                (sets_first x₀.buffer.cells undef_lit (neg p) w.behind.added)
                ∙ ap (λ (l : List ℕ). laid x₀ (record { seen = set x.marks (var p) 0; path = 0; learnt = neg p ∷ l; activity = a }))
                (sym (ap (λ (y : Scratch). drop 1 y.buffer.items) w.behind.is))
                ∙ ap (laid x₀) is_last);
            activity = ap (λ (r : Resolvent). r.activity) is_last;
          }

-- the literals of the trail are of the variables
lits_to : (n : ℕ) (cs : List (List ℕ)) (vs : VarState) (t : List ℕ) (i : ℕ) → Entries n cs vs (older t i) → (k : ℕ) → k < i → var (get_or t k 0) < n
unfolding older
lits_to n cs vs t zero w k h = absurd (omega arith)
lits_to n cs vs t (suc i) w k h = split (less? k i)
    (λ g. lits_to n cs vs t i w.1 k g)
    (λ g.
    let e : k ≡ i = omega arith in
    rw e (var_range (get_or t i 0) n w.0.range))

pub trail_lits : (n : ℕ) (cs : List (List ℕ)) (vs : VarState) → Entries n cs vs (reverse vs.trail) → LitsOf n vs.trail
trail_lits n cs vs w i h = lits_to n cs vs vs.trail (length vs.trail) (rw (older-all vs.trail) w) i h
