-- The marks and the lists, and what the code does to them.
use Rattle.std.specs.Prelude.{ℕ, List, set, replicate}
use Rattle.scratch.specs.Row.{Row, put}
use Rattle.scratch.specs.declared.Scratch.{Scratch}

abbrev pub with_marks : Scratch → List ℕ → Scratch
with_marks s xs = record { marks = xs; buffer = s.buffer; stack = s.stack; notes = s.notes }

abbrev pub with_buffer : Scratch → Row → Scratch
with_buffer s r = record { marks = s.marks; buffer = r; stack = s.stack; notes = s.notes }

abbrev pub with_stack : Scratch → Row → Scratch
with_stack s r = record { marks = s.marks; buffer = s.buffer; stack = r; notes = s.notes }

abbrev pub with_notes : Scratch → Row → Scratch
with_notes s r = record { marks = s.marks; buffer = s.buffer; stack = s.stack; notes = r }

abbrev pub marked : Scratch → ℕ → ℕ → Scratch
marked s v x = with_marks s (set s.marks v x)

abbrev pub buffered : Scratch → ℕ → ℕ → Scratch
buffered s k p = with_buffer s (put s.buffer k p)

abbrev pub stacked : Scratch → ℕ → ℕ → Scratch
stacked s k p = with_stack s (put s.stack k p)

abbrev pub noted : Scratch → ℕ → ℕ → Scratch
noted s k p = with_notes s (put s.notes k p)

abbrev pub unmarked : ℕ → Scratch → Scratch
unmarked n s = with_marks s (replicate n 0)
