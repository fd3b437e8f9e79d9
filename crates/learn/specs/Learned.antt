-- `analyze`: the clause that is learnt, in the buffer.
use Rattle.std.specs.Prelude.{ℕ, ◌≤◌, ◌<◌, ◌≡◌, refl, List, [], ◌∷◌, length, get_or, drop, replicate}
use Rattle.std.proofs.Common.{arith, ap, ◌∙◌, subst, sym, length-set}
use Rattle.std.proofs.Math.Seq.{length-sets}
use Rattle.model.specs.Lit.{neg}
use Rattle.model.specs.State.{Activity, VarState}
use Rattle.model.specs.Minimise.{minimize_conflict}
use Rattle.model.specs.Analyze as analysis
use Rattle.model.specs.Analyze.{Resolvent, first_uip, highest_first, backtrack_level}
use Rattle.lawbase.specs.Basics.{◌∈◌, var-neg}
use Rattle.lawbase.specs.WellFormed.{Distinct}
use Rattle.assign.proofs.Lists.{get_or_in}
use Rattle.assign.proofs.Reading.{trail_var}
use Rattle.learning.specs.FirstUip.{Conflict}
use Rattle.learning.specs.Walk.{Stop}
use Rattle.learning.specs.Minimise.{Minimisable}
use Rattle.learning.proofs.Minimise.{minimize_sub, sub_in}
use Rattle.learning.proofs.Analyzed.{minimisable}
use Rattle.options.specs.Numbers.{mode_number}
use Rattle.trail.specs.View.{LitsOf}
use Rattle.scratch.specs.declared.Scratch.{Scratch}
use Rattle.scratch.specs.Row.{Row}
use Rattle.state.specs.declared.State.{State}
use Rattle.state.specs.Still.{Still, Has, state_at, config_of}
use Rattle.analyze.specs.Uip.{Conflicted, Uip, solver}
use Rattle.analyze.specs.Resolving.{laid}
use Rattle.analyze.specs.Second.{Seconded, swapped}
use Rattle.analyze.specs.After.{stop, after, after_clause, after_some, after_sized, conflict_at}
use Rattle.minimise.specs.Minimised.{Ready, minimisable_in}
use Rattle.minimise.specs.Redundant.{Filled}
use Rattle.learn.specs.Reducing.{with_scratch, Roomy, Reduced}

-- a change of places leaves the room
swapped_length : (vs : VarState) (ls cells : List ℕ) → length (swapped vs ls cells) ≡ length cells
swapped_length vs [] cells = refl
swapped_length vs (l ∷ ls) cells = length-set _ _ _ ∙ length-set cells 1 _

-- the definition's `analyze`
abbrev pub learnt_of : State → Activity → ℕ → analysis.Learnt
learnt_of s a confl = analysis.analyze (config_of s.config) (solver (state_at s) a) confl

-- clause confl is false, and nothing is half done
pub record Conflicting (s : State) (a : Activity) (confl : ℕ) : Type 0 where
  pub still : Still s
  pub conflict : Conflict s.config.vars (state_at s).store (state_at s).vars confl
  pub sized : length a.activities ≡ s.config.vars

-- the clause is the buffer's, and the state is as it was
pub record Learned (s s' : State) (a a' : Activity) (confl r : ℕ) : Type 0 where
  pub beside : s' ≡ with_scratch s s'.scratch
  pub clause : s'.scratch.buffer.items ≡ (learnt_of s a confl).clause
  pub level : r ≡ (learnt_of s a confl).level
  pub activity : a' ≡ (learnt_of s a confl).activity
  pub sized : length a'.activities ≡ length a.activities
  pub has : Has s' (state_at s)

-- another scratch block without marks
pub still_scratch : (s : State) (x : Scratch) → Still s → Roomy s.scratch x → x.marks ≡ replicate s.config.vars 0 → Has (with_scratch s x) (state_at s)
still_scratch s x k r m =
    let z = k.sized in
    record {
      still =
          record {
            sized =
                record {
                  some = z.some;
                  vars = z.vars;
                  room = z.room;
                  lit_room = z.lit_room;
                  values = z.values;
                  marks = ap length m ∙ sym (ap length k.idle.marks) ∙ z.marks;
                  buffer = r.buffer ∙ z.buffer;
                  stack = r.stack ∙ z.stack;
                  notes = r.notes ∙ z.notes;
                  lists = z.lists;
                  blockers = z.blockers;
                  chains = z.chains;
                  clauses = z.clauses;
                  literals = z.literals;
                  flags = z.flags;
                  members = z.members;
                };
            idle = record { marks = m; final = k.idle.final; pushed = k.idle.pushed; nodes = k.idle.nodes };
            formed = k.formed;
          };
      state = refl;
    }

module _ (s : State) (a : Activity) (confl : ℕ) (p : Conflicting s a confl) where
  abbrev n : ℕ
  n = length s.trail.vars.values

  vars_is : s.config.vars ≡ n
  vars_is = sym p.still.sized.values

  pub analysable : Conflicted s.trail s.clauses s.scratch a confl
  analysable =
      let z = p.still.sized in
      record {
        sized = record { most = omega (arith, z.values, z.vars); buffer = omega (arith, z.values, z.buffer, z.some); activity = p.sized ∙ vars_is };
        marks = rw vars_is at p.still.idle.marks;
        proper = rw vars_is at p.still.formed.store.proper;
        conflict = conflict_at (config_of s.config) (state_at s) s.trail s.clauses confl vars_is refl refl p.conflict;
      }

  -- the resolvent at the first UIP
  abbrev k : Resolvent
  k = first_uip (config_of s.config) (solver (state_at s) a) confl

  module _ (x : Scratch) (a₁ : Activity) (u : Uip s.trail s.clauses s.scratch x a a₁ confl) where
    ends : Stop s.config.vars (state_at s).store (state_at s).vars confl k
    ends = stop (config_of s.config) (state_at s) s.trail s.clauses confl vars_is refl refl p.conflict s.scratch x a a₁ u

    laid_is : x ≡ laid s.scratch k
    laid_is = (after (config_of s.config) (state_at s) s.trail s.clauses confl vars_is refl refl p.conflict s.scratch x a a₁ u).scratch

    clause_is : x.buffer.items ≡ k.learnt
    clause_is = after_clause (config_of s.config) (state_at s) s.trail s.clauses confl vars_is refl refl p.conflict s.scratch x a a₁ u

    seen_is : x.marks ≡ k.seen
    seen_is = ap (λ (y : Scratch). y.marks) laid_is

    some : 1 ≤ length x.buffer.items
    some = after_some (config_of s.config) (state_at s) s.trail s.clauses confl vars_is refl refl p.conflict s.scratch x a a₁ u

    goes : Minimisable s.config.vars (state_at s).store (state_at s).vars (drop 1 k.learnt) k.seen
    goes = minimisable s.config.vars (state_at s).store (state_at s).vars confl p.conflict k ends 2

    apart : Distinct (drop 1 k.learnt)
    apart = rw ends.first.learnt (rw ends.first.learnt at ends.first.distinct).1

    filled : Filled s.clauses.clauses
    filled c b =
        let cs = s.clauses.clauses in
        omega (arith, (p.still.formed.store.proper (get_or cs c []) (get_or_in cs c [] b)).two)

    -- what minimising asks
    pub ready : Ready s.trail s.clauses x
    ready =
        let z = p.still.sized in
        record {
          some = some;
          clause = rw (clause_is, seen_is, ← vars_is) (minimisable_in goes []);
          distinct = rw clause_is apart;
          filled = filled;
          stack = omega (arith, ap (λ (y : Scratch). length y.stack.cells) laid_is, z.stack, z.values);
          notes = omega (arith, ap (λ (y : Scratch). length y.notes.cells) laid_is, z.notes, z.values);
        }

    module _ (t : State) (m : Reduced (with_scratch s x) t) where
      abbrev left : List ℕ
      left = minimize_conflict (mode_number s.config.mode) (state_at s).store (state_at s).vars (drop 1 k.learnt) k.seen

      reduced_is : t.scratch.buffer.items ≡ get_or k.learnt 0 0 ∷ left
      reduced_is = rw (clause_is, seen_is) at m.clause

      left_lits : LitsOf s.config.vars left
      left_lits i b =
          let q = get_or left i 0 in
          let j : q ∈ drop 1 k.learnt =
          sub_in (minimize_sub s.config.vars (state_at s).store (state_at s).vars (drop 1 k.learnt) k.seen goes (mode_number s.config.mode)) q (get_or_in left i 0 b) in
          subst (λ (v : ℕ). v < s.config.vars) (var-neg q) (trail_var p.conflict.assignment (neg q) (goes.falsified q j))

      -- what the change of places asks
      pub second_asks : LitsOf (length t.trail.vars.values) (drop 1 t.scratch.buffer.items)
      second_asks = rw (reduced_is, ap (λ (y : State). length y.trail.vars.values) m.beside, ← vars_is) left_lits

      module _ (b : Row) (v : ℕ) (e : Seconded t.trail t.scratch.buffer b v) where
        abbrev ordered : List ℕ
        ordered = highest_first (state_at s).vars left

        trail_is : t.trail.vars ≡ s.trail.vars
        trail_is = ap (λ (y : State). y.trail.vars) m.beside

        items_is : b.items ≡ get_or k.learnt 0 0 ∷ ordered
        items_is = ap (λ (r : Row). r.items) e.buffer ∙ rw (reduced_is, trail_is) refl

        -- the scratch block afterwards
        abbrev last : Scratch
        last = record { marks = t.scratch.marks; buffer = b; stack = t.scratch.stack; notes = t.scratch.notes }

        beside_is : with_scratch t last ≡ with_scratch s last
        beside_is = ap (λ (y : State). with_scratch y last) m.beside

        roomy_is : Roomy s.scratch last
        roomy_is =
            record {
              buffer =
                  ap (λ (r : Row). length r.cells) e.buffer
                  ∙ swapped_length t.trail.vars (drop 1 t.scratch.buffer.items) t.scratch.buffer.cells
                  ∙ m.roomy.buffer
                  ∙ ap (λ (y : Scratch). length y.buffer.cells) laid_is
                  ∙ length-sets s.scratch.buffer.cells 0 k.learnt;
              stack = m.roomy.stack ∙ ap (λ (y : Scratch). length y.stack.cells) laid_is;
              notes = m.roomy.notes ∙ ap (λ (y : Scratch). length y.notes.cells) laid_is;
            }

        pub learned : Learned s (with_scratch t last) a a₁ confl v
        unfolding analysis.analyze
        learned =
            record {
              beside = beside_is;
              clause = items_is;
              level = e.level ∙ rw (reduced_is, trail_is) refl;
              activity = (after (config_of s.config) (state_at s) s.trail s.clauses confl vars_is refl refl p.conflict s.scratch x a a₁ u).activity;
              sized = after_sized (config_of s.config) (state_at s) s.trail s.clauses confl vars_is refl refl p.conflict s.scratch x a a₁ u;
              has =
                  subst (λ (y : State). Has y (state_at s)) (sym beside_is)
                  (still_scratch s last p.still roomy_is (m.marks ∙ ap (λ (i : ℕ). replicate i 0) (sym vars_is)));
            }
