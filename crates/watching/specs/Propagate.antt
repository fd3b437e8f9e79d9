-- `propagate`: what its turns keep holds at the end; the queue is empty then, and the number of turns is enough.
use Rattle.std.specs.Prelude.{◌≡◌, [], length, get_or}
use Rattle.std.specs.Prelude.{None as none, Some as some}
use Prim.Native.Nat.{ℕ, suc, ◌+◌}
use Rattle.model.specs.State.{State, with_qhead}
use Rattle.model.specs.Propagate.{Propagated, visit}

-- the literal at the head of the queue
abbrev pub taken : State → ℕ
taken s = get_or s.vars.trail s.qhead 0

-- one turn
abbrev pub turn : State → Propagated
turn s = visit (taken s) [] (get_or s.store.watches (taken s) []) (with_qhead s (s.qhead + 1))

-- after a turn: the queue's head is one further, or a clause is false
pub data Turned (P : State → Type 0) (Q : ℕ → State → Type 0) (head : ℕ) : Propagated → Type 0 where
  onward : (s : State) → P s → s.qhead ≡ suc head → Turned P Q head (record { state = s; conflict = none })
  halted : (c : ℕ) (s : State) → Q c s → Turned P Q head (record { state = s; conflict = some c })

-- at the end: the queue is empty, or a clause is false
pub data Finished (P : State → Type 0) (Q : ℕ → State → Type 0) : Propagated → Type 0 where
  quiet : (s : State) → P s → s.qhead ≡ length s.vars.trail → Finished P Q (record { state = s; conflict = none })
  clash : (c : ℕ) (s : State) → Q c s → Finished P Q (record { state = s; conflict = some c })
