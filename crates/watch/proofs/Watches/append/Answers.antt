use native.Mathlib.Omega.{arith}
use Rattle.std.proofs.Math.ListN.{length-set}
use Rattle.watch.specs.Stores.{holds, slot_low, home_low, note_low, end_low, blockers_length, append_holds}
use Rattle.watch.proofs.Watches.append.Goals as goal

pub home-e-requires-clause-l_lt_slots : goal.home-e-requires-clause-l_lt_slots
home-e-requires-clause-l_lt_slots c = slot_low (holds c.self.invariant c.self.view_is) _ c.requires.bounds.0

pub overflow_cast-y : goal.overflow_cast-y
overflow_cast-y c = omega (arith, c.requires.bounds.1, blockers_length (holds c.self.invariant c.self.view_is), c.self.invariant.room.nodes)

pub note-t-requires : goal.note-t-requires
note-t-requires c = omega (arith, c.home-e.ensures, home_low (holds c.self.invariant c.self.view_is) _ c.requires.bounds.0)

pub note-u-requires : goal.note-u-requires
note-u-requires c = omega (arith, c.home-e.ensures, home_low (holds c.self.invariant c.self.view_is) _ c.requires.bounds.0)

pub set_note-requires : goal.set_note-requires
set_note-requires c = note_low (holds c.self.invariant c.self.view_is) _ c.requires.bounds.1

pub set_note-requires-2 : goal.set_note-requires-2
set_note-requires-2 c = rw (c.set_note.ensures, length-set) (omega (arith, c.home-e.ensures, home_low (holds c.self.invariant c.self.view_is) _ c.requires.bounds.0))

pub set_note-requires-3 : goal.set_note-requires-3
set_note-requires-3 c = rw (c.set_note-2.ensures, c.set_note.ensures, length-set, length-set) (omega (arith, c.home-e.ensures, home_low (holds c.self.invariant c.self.view_is) _ c.requires.bounds.0))

pub set_link-requires : goal.set_link-requires
set_link-requires c = rw (c.set_note-3.ensures, c.set_note-2.ensures, c.set_note.ensures, c.note-t.ensures, c.home-e.ensures) (end_low (holds c.self.invariant c.self.view_is) _ c.requires.bounds.0)

pub invariant_of-self : goal.invariant_of-self
invariant_of-self c =
    let p = c.requires in
    rw (c.set_link.ensures, c.set_note-3.ensures, c.set_note-2.ensures, c.set_note.ensures)
    (append_holds (holds c.self.invariant c.self.view_is) _ c.args.x c.args.b.0 p.bounds.0 p.bounds.1 p.free _ _ _ c.home-e.ensures c.note-t.ensures c.note-u.ensures).rep

pub returns : goal.returns
returns c =
    let p = c.requires in
    rw (c.set_link.ensures, c.set_note-3.ensures, c.set_note-2.ensures, c.set_note.ensures)
    (append_holds (holds c.self.invariant c.self.view_is) _ c.args.x c.args.b.0 p.bounds.0 p.bounds.1 p.free _ _ _ c.home-e.ensures c.note-t.ensures c.note-u.ensures).view
