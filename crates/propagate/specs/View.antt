-- What the functions of propagation do to the blocks.
use Rattle.std.specs.Prelude.{ℕ, suc, ◌+◌, ◌-◌, ◌/◌, ◌≤◌, ◌<◌, ◌≡◌, ◌≢◌, ◌⊎◌, true, false, List, length, get_or, set, drop}
use Rattle.std.specs.Prelude.{Option, None as none, Some as some}
use Rattle.model.specs.Limits.{max_variables}
use Rattle.model.specs.Lit.{neg, is_true, is_false}
use Rattle.model.specs.Propagate as Definition
use Rattle.model.specs.Propagate.{new_watch}
use Rattle.lawbase.specs.Basics.{◌∈◌}
use Rattle.trail.specs.View.{Assignment, LitsOf, enqueued}
use Rattle.store.specs.View.{Clauses, clause_of, written}
use Rattle.watch.specs.View.{Watches, list_of, blocked}
use Rattle.watch.specs.Walk.{Gone}
use Rattle.watch.specs.declared.Cursor.{Cursor}
use Rattle.state.specs.declared.State.{State}
use Rattle.state.specs.Still.{state_at, Still, Has, Beside}
use Rattle.state.specs.Walk.{On, More, node_at}
use Rattle.propagate.specs.declared.Place.{Place}
use Rattle.propagate.specs.Visit.{to_visit}

-- clause c becomes l
abbrev pub put_clause : Clauses → ℕ → List ℕ → Clauses
put_clause s c l =
    record {
      clauses = set s.clauses c l;
      pushed = s.pushed;
      room = s.room;
      lit_room = s.lit_room;
      start_cells = s.start_cells;
      lit_cells = written s.lit_cells (get_or s.start_cells c 0) l;
    }

-- a clause l whose false literal f is one of its first two
pub record Paired (f : ℕ) (l : List ℕ) : Type 0 where
  pub two : 2 ≤ length l
  pub lits : LitsOf max_variables l
  pub one : (get_or l 0 0 ≡ f) ⊎ (get_or l 1 0 ≡ f)

-- the place is that of a watch in w
pub record At (a : Place) (w : Watches) : Type 0 where
  pub list : a.list.0 < length w.lists
  pub on : On a.list.0 a.cursor w
  pub more : More a.list.0 a.cursor w
  pub node : a.node ≡ node_at a.list.0 a.cursor w

-- the watch at the cursor c, of node y, stays in the list of p with the blocker b, and the cursor r is at the next
pub record Passed (w w' : Watches) (p b : ℕ) (c : Cursor) (y : ℕ) (r : Cursor) : Type 0 where
  pub holds : w' ≡ blocked y b w
  pub on : On p r w'
  pub passed : r.passed ≡ c.passed + 1

-- ---- the clause of node y

abbrev pub at_node : Clauses → ℕ → List ℕ
at_node k y = clause_of k (y / 2)

-- the literal at i of that clause goes to place 1, and the false literal to its place
abbrev pub exchanged : Clauses → ℕ → ℕ → ℕ → Clauses
exchanged k y p i = put_clause k (y / 2) (set (set (at_node k y) 1 (get_or (at_node k y) i 0)) i (neg p))

-- it can be watched by the literal at i, which has one of the n lists
pub record Movable (n p : ℕ) (l : List ℕ) (i : ℕ) : Type 0 where
  pub two : 2 ≤ length l
  pub inside : i < length l
  pub range : neg (get_or l i 0) < n
  pub other : p ≢ neg (get_or l i 0)

-- what is known of it: l, in a state where m literals are set
pub record Lookable (n p m : ℕ) (values l : List ℕ) : Type 0 where
  pub two : 2 ≤ length l
  pub lits : LitsOf n l
  pub other : (k : ℕ) → 2 ≤ k → k < length l → p ≢ neg (get_or l k 0)
  pub room : is_true values (get_or l 0 0) ≡ false → is_false values (get_or l 0 0) ≡ false → m < n

-- its literals from the third on are false: then the first, q, is false, or it is set, and the walk goes on at the cursor o
pub data Settles (t t' : Assignment) (w w' : Watches) (p q : ℕ) (c : Cursor) (y : ℕ) (o : Option Cursor) : Type 0 where
  clashes : is_false t.vars.values q ≡ true → t' ≡ t → w' ≡ blocked y q w → o ≡ none → Settles t t' w w' p q c y o
  sets : (r : Cursor) → is_false t.vars.values q ≡ false → t' ≡ enqueued t q (y / 2) → Passed w w' p q c y r → o ≡ some r → Settles t t' w w' p q c y o

-- a state with other blocks
abbrev pub with_blocks : State → Assignment → Watches → Clauses → State
with_blocks s t w k = record { config = s.config; trail = t; scratch = s.scratch; watches = w; clauses = k; finals = s.finals; qhead = s.qhead; ok = s.ok }

-- what comes of the watch at the cursor, where its blocker is not true
pub data Looks (s s' : State) (p : ℕ) (c : Cursor) (y : ℕ) (o : Option Cursor) : Type 0 where
  passes : (r : Cursor) (w : Watches) → is_true s.trail.vars.values (get_or (at_node s.clauses y) 0 0) ≡ true
      → Passed s.watches w p (get_or (at_node s.clauses y) 0 0) c y r
      → s' ≡ with_blocks s s.trail w s.clauses → o ≡ some r → Looks s s' p c y o
  moves : (k : ℕ) (w : Watches) → is_true s.trail.vars.values (get_or (at_node s.clauses y) 0 0) ≡ false
      → new_watch s.trail.vars.values 2 (drop 2 (at_node s.clauses y)) ≡ some k
      → Gone w p (neg (get_or (at_node s.clauses y) k 0)) (get_or (at_node s.clauses y) 0 0) s.watches c
      → s' ≡ with_blocks s s.trail w (exchanged s.clauses y p k) → o ≡ some c → Looks s s' p c y o
  settles : (t : Assignment) (w : Watches) → is_true s.trail.vars.values (get_or (at_node s.clauses y) 0 0) ≡ false
      → new_watch s.trail.vars.values 2 (drop 2 (at_node s.clauses y)) ≡ none
      → Settles s.trail t s.watches w p (get_or (at_node s.clauses y) 0 0) c y o
      → s' ≡ with_blocks s t w s.clauses → Looks s s' p c y o

-- ---- the walk over the watches of p

-- where it stands
pub record Walks (s : State) (p : ℕ) (c : Cursor) : Type 0 where
  pub still : Still s
  pub on : p ∈ s.trail.vars.trail
  pub at : On p c s.watches

-- how many watches are left
abbrev pub left : ℕ → Cursor → Watches → ℕ
left p c w = length (list_of w p) - c.passed

-- the queue's head is at place q of the trail
abbrev pub at_head : State → ℕ → State
at_head s q = record { config = s.config; trail = s.trail; scratch = s.scratch; watches = s.watches; clauses = s.clauses; finals = s.finals; qhead = q; ok = s.ok }

-- nothing is left in the queue
abbrev pub halted : State → State
halted s = at_head s (length s.trail.vars.trail)

-- after the watch of node y, where m were left: the walk goes on, or the clause is false; o is what the walk comes to
abbrev pub Went : State → ℕ → ℕ → ℕ → Definition.Propagated → Option Cursor → Type 0
Went s p m y o (some c) = Walks s p c × (suc (left p c s.watches) ≡ m) × (to_visit p c.passed (state_at s) ≡ o)
Went s p m y o none = Still (halted s) × (o ≡ record { state = state_at (halted s); conflict = some (y / 2) })

pub record Looked (s s' : State) (p : ℕ) (c : Cursor) (y : ℕ) (r : Option Cursor) : Type 0 where
  pub went : Went s' p (left p c s.watches) y (to_visit p c.passed (state_at s)) r
  pub beside : Beside s s'

-- ---- the result

-- the state is what the definition has as o, and so is the false clause r; what a step leaves is as it was
pub record Gives (s s' : State) (o : Definition.Propagated) (r : Option ℕ) : Type 0 where
  pub has : Has s' o.state
  pub conflict : o.conflict ≡ r
  pub beside : Beside s s'
