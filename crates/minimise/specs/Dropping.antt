-- The clause in the buffer: its mask, and what is left of it.
use Rattle.std.specs.Prelude.{ℕ, zero, suc, ◌+◌, ◌≤◌, ◌<◌, ◌≡◌, refl, ◌≢◌, Bool, true, false, List, [], ◌∷◌, ◌++◌, length, get_or, take, drop}
use Rattle.std.proofs.Common.{arith, add-one, ap, sym, ◌∙◌, get_or-drop, length-set, take-suc-set, drop-cons, eq-eqb, ne_eqb, eqb-true}
use Rattle.std.specs.Prelude.{Option, None as none, Some as some, is_some, not, eqb}
use borrow.Author.Tests.{eqb-false, not-true, not-false}
use Rattle.std.proofs.lemmas.List.{drop-set-lt, drop_all, length-take}
use Rattle.std.specs.Int.Bits.{bit_or}
use Rattle.model.specs.Lit.{var, neg, no_reason, abstract_level}
use Rattle.model.specs.State.{Watch, Store, VarState, level_lit, reason_lit}
use Rattle.model.specs.Minimise.{is_seen, abstract_levels, lit_redundant, drop_redundant}
use Rattle.clause.specs.Cells.{reason_at}
use Rattle.trail.specs.View.{Assignment}
use Rattle.store.specs.View.{Clauses}
use Rattle.scratch.specs.Row.{Row, put}
use Rattle.scratch.specs.View.{with_buffer}
use Rattle.scratch.specs.declared.Scratch.{Scratch}
use Rattle.lawbase.specs.Basics.{◌∈◌, Every}
use Rattle.lawbase.specs.WellFormed.{Entries}
use Rattle.learning.specs.Trace.{Fit, Grows}
use Rattle.learning.proofs.Trace.{trace_keeps}
use Rattle.minimise.specs.Notes.{at_in}
use Rattle.minimise.specs.Tracing.{Going, going_start, going_then, Tidy, reason_test, outcome}
use Rattle.minimise.specs.Redundant.{Filled, watched, newest, Tries}

-- ---- the mask

pub levels_end : (vs : VarState) (mask : ℕ) (b : List ℕ) (i : ℕ) → length b ≤ i → abstract_levels vs mask (drop i b) ≡ mask
unfolding abstract_levels
levels_end vs mask b i h = rw (drop_all i b h) refl

pub levels_step : (vs : VarState) (mask : ℕ) (b : List ℕ) (i : ℕ) → i < length b → {q k x : ℕ} → q ≡ get_or b i 0 → k ≡ get_or vs.levels (var q) 0 → x ≡ abstract_level k
    → abstract_levels vs mask (drop i b) ≡ abstract_levels vs (bit_or mask x) (drop (i + 1) b)
unfolding abstract_levels
levels_step vs mask b i h {q} {k} {x} eq ek ex =
    let e : x ≡ abstract_level (level_lit vs (get_or b i 0)) = rw (ex, ek, eq) refl in
    rw (e, add-one, drop-cons b i 0 h, abstract_levels) refl

-- ---- the definition's turns

module _ (st : Store) (vs : VarState) (mask : ℕ) (kept : List ℕ) (l : ℕ) (ls m : List ℕ) where
  drop_decided : reason_lit vs l ≡ no_reason → drop_redundant st vs mask kept (l ∷ ls) m ≡ drop_redundant st vs mask (kept ++ (l ∷ [])) ls m
  unfolding drop_redundant
  drop_decided e = rw (eq-eqb (reason_lit vs l) no_reason e, drop_redundant)

  module _ (ne : reason_lit vs l ≢ no_reason) where
    drop_kept : lit_redundant st vs mask (suc (length m)) (record { stack = l ∷ []; seen = m }) ≡ none
        → drop_redundant st vs mask kept (l ∷ ls) m ≡ drop_redundant st vs mask (kept ++ (l ∷ [])) ls m
    unfolding drop_redundant
    drop_kept e = rw (ne_eqb (reason_lit vs l) no_reason ne, e, drop_redundant)

    drop_gone : (k : List ℕ) → lit_redundant st vs mask (suc (length m)) (record { stack = l ∷ []; seen = m }) ≡ some k
        → drop_redundant st vs mask kept (l ∷ ls) m ≡ drop_redundant st vs mask kept ls k
    unfolding drop_redundant
    drop_gone k e = rw (ne_eqb (reason_lit vs l) no_reason ne, e, drop_redundant)

drop_end : (st : Store) (vs : VarState) (mask : ℕ) (kept m : List ℕ) → drop_redundant st vs mask kept [] m ≡ kept
unfolding drop_redundant
drop_end st vs mask kept m = refl

-- ---- one literal

-- a literal of the clause: false, above level 0, marked
pub record Falsified (a : Assignment) (s : Scratch) (l : ℕ) : Type 0 where
  pub set : neg l ∈ newest a
  pub above : 0 < level_lit a.vars l
  pub seen : is_seen s.marks l ≡ true

pub record Judgeable (a : Assignment) (c : Clauses) (s : Scratch) (l : ℕ) : Type 0 where
  pub entries : Entries (length a.vars.values) c.clauses a.vars (newest a)
  pub filled : Filled c.clauses
  pub lit : Falsified a s l
  pub tidy : Tidy (length a.vars.values) s

-- what is kept, with l or without it
abbrev pub keep_unless : Bool → List ℕ → ℕ → List ℕ
keep_unless true kept l = kept
keep_unless false kept l = kept ++ (l ∷ [])

pub record Judges (a : Assignment) (c : Clauses) (s s' : Scratch) (mask l : ℕ) (r : Bool) : Type 0 where
  pub going : Going (length a.vars.values) s s'
  pub buffer : s'.buffer ≡ s.buffer
  pub grows : Grows s.marks s'.marks
  pub result : (ws : List (List Watch)) (kept ls : List ℕ) → drop_redundant (watched c ws) a.vars mask kept (l ∷ ls) s.marks
      ≡ drop_redundant (watched c ws) a.vars mask (keep_unless r kept l) ls s'.marks

module _ {a : Assignment} {c : Clauses} {s : Scratch} {l : ℕ} (p : Judgeable a c s l) where
  abbrev n : ℕ
  n = length a.vars.values

  pub judged_decided : {mask : ℕ} → reason_lit a.vars l ≡ no_reason → Judges a c s s mask l false
  judged_decided {mask} e =
      record {
        going = going_start n s p.tidy;
        buffer = refl;
        grows = λ u h. h;
        result = λ ws kept ls. drop_decided (watched c ws) a.vars mask kept l ls s.marks e;
      }

  -- b: whether its reason's cell, read as an option, names one
  module _ {v : ℕ} (ev : v ≡ var l) {f : Option ℕ} (ef : f ≡ reason_at (get_or a.vars.reasons v 0)) {b : Bool} (eb : b ≡ is_some f) where
    test : b ≡ not (eqb (reason_lit a.vars l) no_reason)
    test = eb ∙ ap (λ (o : Option ℕ). is_some o) ef ∙ ap (λ (i : ℕ). is_some (reason_at (get_or a.vars.reasons i 0))) ev ∙ reason_test (reason_lit a.vars l)

    pub judged_free : b ≡ false → reason_lit a.vars l ≡ no_reason
    judged_free e = eqb-true (reason_lit a.vars l) no_reason (not-false (eqb (reason_lit a.vars l) no_reason) (sym test ∙ e))

    pub judged_caused : b ≡ true → reason_lit a.vars l ≢ no_reason
    judged_caused e = eqb-false (reason_lit a.vars l) no_reason (not-true (eqb (reason_lit a.vars l) no_reason) (sym test ∙ e))

  module _ (ne : reason_lit a.vars l ≢ no_reason) where
    fit : Fit a.vars (newest a) l
    fit = record { falsified = p.lit.set; above = p.lit.above; caused = ne }

    pub judged_tried : {s' : Scratch} {mask : ℕ} {r : Bool} → Tries a c s s' mask l r → Judges a c s s' mask l r
    judged_tried {s'} {mask} {r} k = by r refl
      where
        by : (b : Bool) → r ≡ b → Judges a c s s' mask l r
        by true e =
            let f : (ws : List (List Watch)) → lit_redundant (watched c ws) a.vars mask (suc (length s.marks)) (record { stack = l ∷ []; seen = s.marks }) ≡ some s'.marks =
            λ ws. k.result ws ∙ ap (λ (b : Bool). outcome b s'.marks) e
            in
            record {
              going = k.going;
              buffer = k.buffer;
              grows = (trace_keeps n (watched c []) a.vars (newest a) p.entries mask (suc (length s.marks)) l s.marks s'.marks p.tidy.marks fit (f [])).1;
              result = λ ws kept ls. rw e (drop_gone (watched c ws) a.vars mask kept l ls s.marks ne s'.marks (f ws));
            }
        by false e =
            let z : s'.marks ≡ s.marks = k.marks e in
            record {
              going = k.going;
              buffer = k.buffer;
              grows = λ v g. rw z g;
              result = λ ws kept ls. rw (e, z) (drop_kept (watched c ws) a.vars mask kept l ls s.marks ne (k.result ws ∙ ap (λ (b : Bool). outcome b s'.marks) e));
            }

-- ---- the clause

pub record Minimising (a : Assignment) (c : Clauses) (s : Scratch) : Type 0 where
  pub entries : Entries (length a.vars.values) c.clauses a.vars (newest a)
  pub filled : Filled c.clauses
  pub some : 1 ≤ length s.buffer.items
  pub lits : Every (Falsified a s) (drop 1 s.buffer.items)
  pub tidy : Tidy (length a.vars.values) s

pub record Shrinks (a : Assignment) (c : Clauses) (s s' : Scratch) (mask : ℕ) : Type 0 where
  pub going : Going (length a.vars.values) s s'
  pub cells : length s'.buffer.cells ≡ length s.buffer.cells
  pub most : length s'.buffer.items ≤ length s.buffer.items
  pub clause : (ws : List (List Watch)) → s'.buffer.items ≡ get_or s.buffer.items 0 0 ∷ drop_redundant (watched c ws) a.vars mask [] (drop 1 s.buffer.items) s.marks

-- place i is next, and what is kept stands before place j
pub record Shrinking (a : Assignment) (c : Clauses) (s s' : Scratch) (mask i j : ℕ) : Type 0 where
  pub going : Going (length a.vars.values) s s'
  pub grows : Grows s.marks s'.marks
  pub cells : length s'.buffer.cells ≡ length s.buffer.cells
  pub size : length s'.buffer.items ≡ length s.buffer.items
  pub order : j ≤ i
  pub later : drop i s'.buffer.items ≡ drop i s.buffer.items
  pub kept : List ℕ
  pub front : take j s'.buffer.items ≡ get_or s.buffer.items 0 0 ∷ kept
  pub rest : (ws : List (List Watch)) → drop_redundant (watched c ws) a.vars mask [] (drop 1 s.buffer.items) s.marks
      ≡ drop_redundant (watched c ws) a.vars mask kept (drop i s.buffer.items) s'.marks

take_first : (b : List ℕ) → 1 ≤ length b → take 1 b ≡ get_or b 0 0 ∷ []
take_first [] h = absurd (omega arith)
take_first (x ∷ b) h = refl

behind_first : (b : List ℕ) (i : ℕ) → 1 ≤ i → i < length b → get_or b i 0 ∈ drop 1 b
behind_first [] i o h = absurd (omega arith)
behind_first (x ∷ b) zero o h = absurd (omega arith)
behind_first (x ∷ b) (suc i) o h = at_in b i (omega arith)

drop_next : (b d : List ℕ) (i : ℕ) → i < length b → i < length d → drop i b ≡ drop i d → drop (i + 1) b ≡ drop (i + 1) d
drop_next b d i h k e = rw add-one (ap (drop 1) (sym (drop-cons b i 0 h) ∙ e ∙ drop-cons d i 0 k))

pub shrinking_start : {a : Assignment} {c : Clauses} {s : Scratch} {mask : ℕ} → Minimising a c s → Shrinking a c s s mask 1 1
shrinking_start {a} {c} {s} p =
    record {
      going = going_start (length a.vars.values) s p.tidy;
      grows = λ v h. h;
      cells = refl;
      size = refl;
      order = omega arith;
      later = refl;
      kept = [];
      front = take_first s.buffer.items p.some;
      rest = λ ws. refl;
    }

module _ {a : Assignment} {c : Clauses} {s s' : Scratch} {mask i j : ℕ} (p : Minimising a c s) (g : Shrinking a c s s' mask i j) where
  module _ (b : i < length s.buffer.items) {l : ℕ} (e : l ≡ get_or s'.buffer.items i 0) where
    lit_was : l ≡ get_or s.buffer.items i 0
    lit_was =
        let z : i + 0 ≡ i = omega arith in
        e ∙ (rw z at (sym (get_or-drop i s'.buffer.items 0 0) ∙ ap (λ (xs : List ℕ). get_or xs 0 0) g.later ∙ get_or-drop i s.buffer.items 0 0))

    pub shrinking_ask : 1 ≤ i → Judgeable a c s' l
    shrinking_ask o =
        let f : Falsified a s l = rw lit_was (p.lits (get_or s.buffer.items i 0) (behind_first s.buffer.items i o b)) in
        record {
          entries = p.entries;
          filled = p.filled;
          lit = record { set = f.set; above = f.above; seen = g.grows (var l) f.seen };
          tidy = g.going.tidy;
        }

    module _ {v : Scratch} {r : Bool} (k : Judges a c s' v mask l r) where
      turn : (ws : List (List Watch)) → drop_redundant (watched c ws) a.vars mask [] (drop 1 s.buffer.items) s.marks
          ≡ drop_redundant (watched c ws) a.vars mask (keep_unless r g.kept l) (drop (i + 1) s.buffer.items) v.marks
      turn ws =
          let f : drop i s.buffer.items ≡ l ∷ drop (i + 1) s.buffer.items = rw (lit_was, add-one) (drop-cons s.buffer.items i 0 b) in
          g.rest ws
          ∙ ap (λ (xs : List ℕ). drop_redundant (watched c ws) a.vars mask g.kept xs s'.marks) f
          ∙ k.result ws g.kept (drop (i + 1) s.buffer.items)

      later_on : drop (i + 1) s'.buffer.items ≡ drop (i + 1) s.buffer.items
      later_on = drop_next s'.buffer.items s.buffer.items i (omega (arith, g.size)) b g.later

      pub shrinking_gone : r ≡ true → Shrinking a c s v mask (i + 1) j
      shrinking_gone o =
          record {
            going = going_then g.going k.going;
            grows = λ w h. k.grows w (g.grows w h);
            cells = ap (λ (x : Row). length x.cells) k.buffer ∙ g.cells;
            size = ap (λ (x : Row). length x.items) k.buffer ∙ g.size;
            order = omega (arith, g.order);
            later = ap (λ (x : Row). drop (i + 1) x.items) k.buffer ∙ later_on;
            kept = g.kept;
            front = ap (λ (x : Row). take j x.items) k.buffer ∙ g.front;
            rest = λ ws. turn ws ∙ ap (λ (t : Bool). drop_redundant (watched c ws) a.vars mask (keep_unless t g.kept l) (drop (i + 1) s.buffer.items) v.marks) o;
          }

      pub shrinking_kept : r ≡ false → Shrinking a c s (with_buffer v (put v.buffer j l)) mask (i + 1) (j + 1)
      shrinking_kept o =
          let f : v.buffer.items ≡ s'.buffer.items = ap (λ (x : Row). x.items) k.buffer in
          let d : v.buffer.cells ≡ s'.buffer.cells = ap (λ (x : Row). x.cells) k.buffer in
          let h : j < length s'.buffer.items = omega (arith, g.size, g.order) in
          let t = going_then g.going k.going in
          record {
            going =
                record {
                  tidy = record { marks = t.tidy.marks; cells = t.tidy.cells; stack = t.tidy.stack; notes = t.tidy.notes };
                  stack = t.stack;
                  notes = t.notes;
                  new = t.new;
                  noted = t.noted;
                  made = t.made;
                };
            grows = λ w h. k.grows w (g.grows w h);
            cells = length-set v.buffer.cells j l ∙ ap (λ (xs : List ℕ). length xs) d ∙ g.cells;
            size = length-set v.buffer.items j l ∙ ap (λ (xs : List ℕ). length xs) f ∙ g.size;
            order = omega (arith, g.order);
            later = drop-set-lt (i + 1) v.buffer.items j l (omega (arith, g.order)) ∙ ap (drop (i + 1)) f ∙ later_on;
            kept = g.kept ++ (l ∷ []);
            front = rw (f, add-one) (take-suc-set s'.buffer.items j l h ∙ ap (λ (xs : List ℕ). xs ++ (l ∷ [])) g.front);
            rest = λ ws. turn ws ∙ ap (λ (t : Bool). drop_redundant (watched c ws) a.vars mask (keep_unless t g.kept l) (drop (i + 1) s.buffer.items) v.marks) o;
          }

  pub shrinking_end : length s.buffer.items ≤ i → Shrinks a c s (with_buffer s' (record { items = take j s'.buffer.items; cells = s'.buffer.cells })) mask
  shrinking_end b =
      let t = g.going in
      record {
        going =
            record {
              tidy = record { marks = t.tidy.marks; cells = t.tidy.cells; stack = t.tidy.stack; notes = t.tidy.notes };
              stack = t.stack;
              notes = t.notes;
              new = t.new;
              noted = t.noted;
              made = t.made;
            };
        cells = g.cells;
        most = omega (arith, length-take j s'.buffer.items, g.size);
        clause = λ ws. g.front ∙ ap (λ (xs : List ℕ). get_or s.buffer.items 0 0 ∷ xs)
            (sym (g.rest ws ∙ ap (λ (xs : List ℕ). drop_redundant (watched c ws) a.vars mask g.kept xs s'.marks) (drop_all i s.buffer.items b)
            ∙ drop_end (watched c ws) a.vars mask g.kept s'.marks));
      }
