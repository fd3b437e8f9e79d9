-- Tracing a literal back, and taking its marks back where that fails.
use Rattle.std.specs.Prelude.{ℕ, suc, ◌+◌, ◌-◌, ◌≤◌, ◌<◌, ◌≡◌, refl, Bool, true, false, List, [], ◌∷◌, ◌++◌, reverse, length, get_or, take, drop}
use Rattle.std.proofs.Common.{arith, ap, sym, subst, ◌∙◌, true≢false, length-set, length-append, length-drop, take_all}
use Rattle.std.proofs.Math.Seq.{drop-append_seam, take-append_seam}
use Rattle.std.proofs.lemmas.List.{append-nil, nil_from_length, length-reverse}
use Rattle.std.specs.Prelude.{Option, Some as some}
use mathlib.Core.List.Memᴰ.{head as here}
use Rattle.model.specs.Lit.{var, neg}
use Rattle.model.specs.State.{Watch, Store, VarState, reason_lit, reason_rest}
use Rattle.model.specs.Minimise.{is_seen, Tracing, push_reason, lit_redundant}
use Rattle.clause.specs.Cells.{reason_at}
use Rattle.trail.specs.View.{Assignment}
use Rattle.store.specs.View.{Clauses, clause_of}
use Rattle.scratch.specs.Row.{Row, pushed}
use Rattle.scratch.specs.View.{with_stack}
use Rattle.scratch.specs.declared.Scratch.{Scratch}
use Rattle.lawbase.specs.Basics.{◌∈◌, Every, every_one, shrink, var-neg, var_range}
use Rattle.lawbase.specs.WellFormed.{Entries}
use Rattle.learning.proofs.Trail.{in_range}
use Rattle.learning.specs.Marks.{Cells, unseen}
use Rattle.learning.proofs.Marks.{unseen_less}
use Rattle.learning.specs.Trace.{then, Fit, Pushed as Grown}
use Rattle.learning.proofs.Trace.{push_law, fit_reason, fit_stored}
use Rattle.learning.proofs.Turns.{push_left, turns_same}
use Rattle.minimise.specs.Notes.{undo, at_in, Made, made_none, Noted, Undone}
use Rattle.minimise.specs.Tracing.{Going, going_then, Tidy, Stacked, tracing, reverse_last, reason_known, outcome}
use Rattle.minimise.specs.Pushing.{Pushable, Pushes}

-- every stored clause has a literal
abbrev pub Filled : List (List ℕ) → Type 0
Filled cs = (c : ℕ) → c < length cs → 1 ≤ length (get_or cs c [])

-- the stored clauses, with any watches: minimising reads none
abbrev pub watched : Clauses → List (List Watch) → Store
watched c ws = record { clauses = c.clauses; watches = ws }

-- the trail, newest first
abbrev pub newest : Assignment → List ℕ
newest a = reverse a.vars.trail

-- ---- the definition's loop, with turns for each variable and one more

module _ (n : ℕ) (st : Store) (vs : VarState) (t : List ℕ) (w : Entries n st.clauses vs t) (mask : ℕ) where
  pub trace_step : (q : ℕ) (stack m : List ℕ) → length m ≡ n → Every (Fit vs t) (q ∷ stack) → suc (length stack) + unseen m ≤ n
      → lit_redundant st vs mask (suc n) (record { stack = q ∷ stack; seen = m })
      ≡ then (push_reason vs mask (reason_rest st vs q) (record { stack = stack; seen = m })) (lit_redundant st vs mask (suc n))
  unfolding lit_redundant
  trace_step q stack m s f h = turns_same n st vs t w mask (suc n) (suc (suc n)) (suc n) (omega arith) (omega arith) (q ∷ stack) m s f (omega arith)

pub trace_end : (n : ℕ) (st : Store) (vs : VarState) (mask : ℕ) (m : List ℕ) → lit_redundant st vs mask (suc n) (record { stack = []; seen = m }) ≡ some m
unfolding lit_redundant
trace_end n st vs mask m = refl

-- ---- one literal

-- l can be traced
pub record Traceable (a : Assignment) (c : Clauses) (s : Scratch) (l : ℕ) : Type 0 where
  pub entries : Entries (length a.vars.values) c.clauses a.vars (newest a)
  pub filled : Filled c.clauses
  pub fit : Fit a.vars (newest a) l
  pub seen : is_seen s.marks l ≡ true
  pub tidy : Tidy (length a.vars.values) s

-- l was traced: the marks that were made are noted, and there are none where it failed
pub record Tries (a : Assignment) (c : Clauses) (s s' : Scratch) (mask l : ℕ) (r : Bool) : Type 0 where
  pub going : Going (length a.vars.values) s s'
  pub buffer : s'.buffer ≡ s.buffer
  pub result : (ws : List (List Watch)) → lit_redundant (watched c ws) a.vars mask (suc (length s.marks)) (record { stack = l ∷ []; seen = s.marks }) ≡ outcome r s'.marks
  pub marks : r ≡ false → s'.marks ≡ s.marks
  pub notes : r ≡ false → s'.notes.items ≡ s.notes.items

pub record Tracks (a : Assignment) (c : Clauses) (s s' : Scratch) (mask l : ℕ) : Type 0 where
  pub going : Going (length a.vars.values) s s'
  pub buffer : s'.buffer ≡ s.buffer
  pub stacked : Stacked (length a.vars.values) s'
  pub fits : Every (Fit a.vars (newest a)) (reverse s'.stack.items)
  pub rest : (ws : List (List Watch)) → lit_redundant (watched c ws) a.vars mask (suc (length a.vars.values)) (record { stack = l ∷ []; seen = s.marks })
      ≡ lit_redundant (watched c ws) a.vars mask (suc (length a.vars.values)) (tracing s')

-- the literal alone is on the stack
abbrev pub laid : Scratch → ℕ → Scratch
laid s l = with_stack s (pushed (record { items = []; cells = s.stack.cells }) l)

-- the part of a list from a place to its end
part-all : (l : List ℕ) (from : ℕ) → take (length l - from) (drop from l) ≡ drop from l
part-all l from = take_all (length l - from) (drop from l) (rw length-drop (omega arith))

module _ {a : Assignment} {c : Clauses} {s : Scratch} {l : ℕ} (p : Traceable a c s l) where
  pub tracks_start : (mask : ℕ) → Tracks a c s (laid s l) mask l
  tracks_start mask =
      let y = p.tidy in
      let k = length-set s.stack.cells 0 l in
      record {
        going =
            record {
              tidy = record { marks = y.marks; cells = y.cells; stack = omega (arith, y.stack, k); notes = y.notes };
              stack = k;
              notes = refl;
              new = [];
              noted = sym (append-nil s.notes.items);
              made = made_none s.marks;
            };
        buffer = refl;
        stacked = omega (arith, y.marks, unseen_less s.marks (var l) p.seen);
        fits = every_one (Fit a.vars (newest a)) p.fit;
        rest = λ ws. refl;
      }

module _ {a : Assignment} {c : Clauses} {s s' : Scratch} {mask l : ℕ} (p : Traceable a c s l) (g : Tracks a c s s' mask l) where
  abbrev n : ℕ
  n = length a.vars.values

  abbrev vs : VarState
  vs = a.vars

  pub tracks_end : length s'.stack.items ≤ 0 → Tries a c s s' mask l true
  tracks_end b =
      let z : s'.stack.items ≡ [] = nil_from_length s'.stack.items (omega arith) in
      record {
        going = g.going;
        buffer = g.buffer;
        result = λ ws.
            rw p.tidy.marks
            (g.rest ws
            ∙ ap (λ (xs : List ℕ). lit_redundant (watched c ws) vs mask (suc n) (record { stack = reverse xs; seen = s'.marks })) z
            ∙ trace_end n (watched c ws) vs mask s'.marks);
        marks = λ e. absurd (true≢false e);
        notes = λ e. absurd (true≢false e);
      }

  -- the last literal q is taken off the stack
  module _ (u : Row) (q : ℕ) (e : s'.stack.items ≡ u.items ++ (q ∷ [])) (k : u.cells ≡ s'.stack.cells) where
    abbrev popped : Scratch
    popped = with_stack s' u

    shorter : length s'.stack.items ≡ length u.items + 1
    shorter = ap (λ (xs : List ℕ). length xs) e ∙ length-append u.items (q ∷ [])

    stack_is : reverse s'.stack.items ≡ q ∷ reverse u.items
    stack_is = ap (λ (xs : List ℕ). reverse xs) e ∙ reverse_last u.items q

    fits_all : Every (Fit vs (newest a)) (q ∷ reverse u.items)
    fits_all = subst (λ (xs : List ℕ). Every (Fit vs (newest a)) xs) stack_is g.fits

    fit_here : Fit vs (newest a) q
    fit_here = fits_all q (here refl)

    rests : Every (λ r. neg r ∈ newest a) (reason_rest (watched c []) vs q)
    rests = fit_reason n (watched c []) vs (newest a) p.entries q fit_here

    of_trail : (r : ℕ) → neg r ∈ newest a → var r < n
    of_trail r i = rw var-neg at (var_range (neg r) n (in_range n c.clauses vs (newest a) p.entries (neg r) i))

    pub tracks_var : var q < n
    tracks_var = of_trail q fit_here.falsified

    stored : reason_lit vs q < length c.clauses
    stored = fit_stored n (watched c []) vs (newest a) p.entries q fit_here

    going_popped : Going n s popped
    going_popped =
        let h = g.going in
        let f = ap (λ (xs : List ℕ). length xs) k in
        record {
          tidy = record { marks = h.tidy.marks; cells = h.tidy.cells; stack = omega (arith, f, h.tidy.stack); notes = h.tidy.notes };
          stack = f ∙ h.stack;
          notes = h.notes;
          new = h.new;
          noted = h.noted;
          made = h.made;
        }

    asked : Pushable a popped (reason_rest (watched c []) vs q)
    asked =
        record {
          lits = λ i b.
              let r = get_or (reason_rest (watched c []) vs q) i 0 in
              of_trail r (rests r (at_in (reason_rest (watched c []) vs q) i b));
          tidy = going_popped.tidy;
          stacked = omega (arith, shorter, g.stacked);
        }

    -- f: its reason's cell, read as an option
    module _ {v : ℕ} (ev : v ≡ var q) {f : Option ℕ} (ef : f ≡ reason_at (get_or vs.reasons v 0)) where
      pub tracks_known : f ≡ some (reason_lit vs q)
      tracks_known = ef ∙ ap (λ (i : ℕ). reason_at (get_or vs.reasons i 0)) ev ∙ reason_known (reason_lit vs q) fit_here.caused

      -- r: the reason; xs: its literals
      module _ {r : ℕ} (er : f ≡ some r) where
        reason_is : r ≡ reason_lit vs q
        reason_is = let e = tracks_known in cc

        pub tracks_stored : r < length c.clauses
        tracks_stored = rw reason_is stored

        module _ {xs : List ℕ} (ex : xs ≡ clause_of c r) where
          part_is : take (length xs - 1) (drop 1 xs) ≡ reason_rest (watched c []) vs q
          part_is = part-all xs 1 ∙ ap (drop 1) ex ∙ ap (λ (i : ℕ). drop 1 (clause_of c i)) reason_is

          pub tracks_filled : 1 ≤ length xs
          tracks_filled = rw (ex, reason_is) (p.filled (reason_lit vs q) stored)

          pub tracks_ask : Pushable a popped (take (length xs - 1) (drop 1 xs))
          tracks_ask = rw part_is asked

          pub tracks_pushed : {y : Scratch} {b : Bool} → Pushes a popped y mask (take (length xs - 1) (drop 1 xs)) b → Pushes a popped y mask (reason_rest (watched c []) vs q) b
          tracks_pushed h = rw part_is at h

    module _ {v : Scratch} {r : Bool} (h : Pushes a popped v mask (reason_rest (watched c []) vs q) r) where
      goes_on : (ws : List (List Watch)) → lit_redundant (watched c ws) vs mask (suc n) (record { stack = l ∷ []; seen = s.marks })
          ≡ then (outcome r (tracing v)) (lit_redundant (watched c ws) vs mask (suc n))
      goes_on ws =
          let f = lit_redundant (watched c ws) vs mask (suc n) in
          g.rest ws
          ∙ ap (λ (xs : List ℕ). f (record { stack = xs; seen = s'.marks })) stack_is
          ∙ trace_step n (watched c ws) vs (newest a) p.entries mask q (reverse u.items) s'.marks g.going.tidy.marks fits_all room
          ∙ ap (λ (o : Option Tracing). then o f) h.result
        where
          room : suc (length (reverse u.items)) + unseen s'.marks ≤ n
          room = omega (arith, length-reverse u.items, shorter, g.stacked)

      going_on : Going n s v
      going_on = going_then going_popped h.going

      buffer_on : v.buffer ≡ s.buffer
      buffer_on = h.buffer ∙ g.buffer

      module _ (o : r ≡ true) where
        turned : push_reason vs mask (reason_rest (watched c []) vs q) (tracing popped) ≡ some (tracing v)
        turned = subst (λ (b : Bool). push_reason vs mask (reason_rest (watched c []) vs q) (tracing popped) ≡ outcome b (tracing v)) o h.result

        grown : Grown n vs (newest a) (reason_rest (watched c []) vs q) (tracing popped) (tracing v)
        grown = rw turned at (push_law n (watched c []) vs (newest a) p.entries mask (reason_rest (watched c []) vs q) rests (tracing popped) g.going.tidy.marks)

        pub tracks_turn : Tracks a c s v mask l
        tracks_turn =
            record {
              going = going_on;
              buffer = buffer_on;
              stacked = h.stacked;
              fits = grown.fit (shrink fits_all);
              rest = λ ws. subst (λ (b : Bool). lit_redundant (watched c ws) vs mask (suc n) (record { stack = l ∷ []; seen = s.marks })
                  ≡ then (outcome b (tracing v)) (lit_redundant (watched c ws) vs mask (suc n))) o (goes_on ws);
            }

        -- the stack and the variables without a mark
        pub tracks_less : length v.stack.items + unseen v.marks < length s'.stack.items + unseen s'.marks
        tracks_less =
            let f : length (reverse v.stack.items) + unseen v.marks ≡ length (reverse u.items) + unseen s'.marks =
            rw turned at (push_left n (watched c []) vs (newest a) p.entries mask (reason_rest (watched c []) vs q) rests (tracing popped) g.going.tidy.marks)
            in
            omega (arith, f, length-reverse v.stack.items, length-reverse u.items, shorter)

      module _ (o : r ≡ false) where
        pub tracks_noted : Noted v.marks v.notes (length s.notes.items)
        tracks_noted =
            let f = going_on.noted in
            record {
              low = omega (arith, ap (λ (xs : List ℕ). length xs) f, length-append s.notes.items going_on.new);
              range = rw (f, drop-append_seam s.notes.items going_on.new) going_on.made.range;
            }

        pub tracks_fail : (m : List ℕ) (y : Row) → Undone v.marks m v.notes y (length s.notes.items)
            → Tries a c s (record { marks = m; buffer = v.buffer; stack = v.stack; notes = y }) mask l false
        tracks_fail m y d =
            let k = going_on in
            let z : m ≡ s.marks =
            d.marks ∙ ap (λ (xs : List ℕ). undo xs v.marks) (ap (drop (length s.notes.items)) k.noted ∙ drop-append_seam s.notes.items k.new) ∙ k.made.back
            in
            let i : y.items ≡ s.notes.items = ap (λ (w : Row). w.items) d.notes ∙ ap (take (length s.notes.items)) k.noted ∙ take-append_seam s.notes.items k.new in
            let j : length y.cells ≡ length s.notes.cells = ap (λ (w : Row). length w.cells) d.notes ∙ k.notes in
            record {
              going =
                  record {
                    tidy =
                        record {
                          marks = ap (λ (xs : List ℕ). length xs) z ∙ p.tidy.marks;
                          cells = subst (λ (xs : List ℕ). Cells xs) (sym z) p.tidy.cells;
                          stack = k.tidy.stack;
                          notes = omega (arith, ap (λ (xs : List ℕ). length xs) i, ap unseen z, j, p.tidy.notes);
                        };
                    stack = k.stack;
                    notes = j;
                    new = [];
                    noted = i ∙ sym (append-nil s.notes.items);
                    made = subst (λ (xs : List ℕ). Made s.marks [] xs) (sym z) (made_none s.marks);
                  };
              buffer = buffer_on;
              result = λ ws.
                  rw p.tidy.marks
                  (subst (λ (b : Bool). lit_redundant (watched c ws) vs mask (suc n) (record { stack = l ∷ []; seen = s.marks })
                  ≡ then (outcome b (tracing v)) (lit_redundant (watched c ws) vs mask (suc n))) o (goes_on ws));
              marks = λ _. z;
              notes = λ _. i;
            }
