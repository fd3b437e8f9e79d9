use native.Mathlib.Omega.{arith}
use Rattle.std.proofs.Math.ListN.{length-set}
use Rattle.watch.specs.Stores.{holds, slot_low, home_low, node_of, cut_last_holds, cut_second_holds, cut_inner_holds}
use Rattle.watch.specs.Walk.{stands_in, at_low, after_low}
use Rattle.watch.proofs.Watches.unlink.Goals as goal

pub home-e-requires-clause-l_lt_slots : goal.home-e-requires-clause-l_lt_slots
home-e-requires-clause-l_lt_slots c = slot_low (holds c.self.invariant c.self.view_is) _ c.requires.l_bound

pub note-t-requires : goal.note-t-requires
note-t-requires c = omega (arith, c.home-e.ensures, home_low (holds c.self.invariant c.self.view_is) _ c.requires.l_bound)

pub note-u-requires : goal.note-u-requires
note-u-requires c = omega (arith, c.home-e.ensures, home_low (holds c.self.invariant c.self.view_is) _ c.requires.l_bound)

pub overflow_cast-a : goal.overflow_cast-a
overflow_cast-a c = omega (arith, at_low (holds c.self.invariant c.self.view_is) _ c.requires.l_bound _ c.requires.stands.0, c.self.invariant.room.links, c.self.invariant.room.slots, c.self.invariant.room.nodes)

pub set_note-requires : goal.set_note-requires
set_note-requires c = omega (arith, c.home-e.ensures, home_low (holds c.self.invariant c.self.view_is) _ c.requires.l_bound)

pub overflow_cast-b : goal.overflow_cast-b
overflow_cast-b c = omega (arith, after_low (holds c.self.invariant c.self.view_is) _ c.requires.l_bound _ c.requires.stands.0, c.self.invariant.room.links, c.self.invariant.room.slots, c.self.invariant.room.nodes)

pub set_note-requires-then-u-x : goal.set_note-requires-then-u-x
set_note-requires-then-u-x c = rw (c.set_note.ensures, length-set) (omega (arith, c.home-e.ensures, home_low (holds c.self.invariant c.self.view_is) _ c.requires.l_bound))

pub invariant_of-self : goal.invariant_of-self
invariant_of-self c =
    let p = c.requires in
    let k = holds c.self.invariant c.self.view_is in
    let s = stands_in k _ p.l_bound _ p.stands.0 in
    rw (c.set_note-then-u-x.ensures, c.set_note.ensures)
    (cut_last_holds k _ p.l_bound _ p.stands.1 _ _ _ _ _ _ p.x_value s.at s.after c.home-e.ensures c.note-t.ensures c.note-u.ensures
    c.if-u-x.true).rep

pub returns-then-u-x : goal.returns-then-u-x
returns-then-u-x c =
    let p = c.requires in
    let k = holds c.self.invariant c.self.view_is in
    let s = stands_in k _ p.l_bound _ p.stands.0 in
    rw (c.set_note-then-u-x.ensures, c.set_note.ensures)
    (cut_last_holds k _ p.l_bound _ p.stands.1 _ _ _ _ _ _ p.x_value s.at s.after c.home-e.ensures c.note-t.ensures c.note-u.ensures
    c.if-u-x.true).view

pub link-y-requires : goal.link-y-requires
link-y-requires c = after_low (holds c.self.invariant c.self.view_is) _ c.requires.l_bound _ c.requires.stands.0

pub link-z-requires : goal.link-z-requires
link-z-requires c = omega (arith, c.requires.x_value, c.self.invariant.room.links, node_of (holds c.self.invariant c.self.view_is) _ c.requires.l_bound _ c.requires.stands.1)

pub set_link-requires : goal.set_link-requires
set_link-requires c = at_low (holds c.self.invariant c.self.view_is) _ c.requires.l_bound _ c.requires.stands.0

pub set_link-requires-2 : goal.set_link-requires-2
set_link-requires-2 c = rw (c.set_link.ensures, length-set) (after_low (holds c.self.invariant c.self.view_is) _ c.requires.l_bound _ c.requires.stands.0)

pub overflow_cast-b-then-t-x : goal.overflow_cast-b-then-t-x
overflow_cast-b-then-t-x c = omega (arith, after_low (holds c.self.invariant c.self.view_is) _ c.requires.l_bound _ c.requires.stands.0, c.self.invariant.room.links, c.self.invariant.room.slots, c.self.invariant.room.nodes)

pub invariant_of-self-then-t-x : goal.invariant_of-self-then-t-x
invariant_of-self-then-t-x c =
    let p = c.requires in
    let k = holds c.self.invariant c.self.view_is in
    let s = stands_in k _ p.l_bound _ p.stands.0 in
    rw (c.set_note-then-t-x.ensures, c.set_link-2.ensures, c.set_link.ensures)
    (cut_second_holds k _ p.l_bound _ p.stands.1 _ _ _ _ _ _ p.x_value s.at s.after c.home-e.ensures c.note-t.ensures c.note-u.ensures
    _ _ c.link-y.ensures c.link-z.ensures c.if-u-x.false c.if-t-x.true).rep

pub invariant_of-self-else-t-x : goal.invariant_of-self-else-t-x
invariant_of-self-else-t-x c =
    let p = c.requires in
    let k = holds c.self.invariant c.self.view_is in
    let s = stands_in k _ p.l_bound _ p.stands.0 in
    rw (c.set_link-2.ensures, c.set_link.ensures)
    (cut_inner_holds k _ p.l_bound _ p.stands.1 _ _ _ _ _ _ p.x_value s.at s.after c.home-e.ensures c.note-t.ensures c.note-u.ensures
    _ _ c.link-y.ensures c.link-z.ensures c.if-u-x.false c.if-t-x.false).rep

pub returns-then-t-x : goal.returns-then-t-x
returns-then-t-x c =
    let p = c.requires in
    let k = holds c.self.invariant c.self.view_is in
    let s = stands_in k _ p.l_bound _ p.stands.0 in
    rw (c.set_note-then-t-x.ensures, c.set_link-2.ensures, c.set_link.ensures)
    (cut_second_holds k _ p.l_bound _ p.stands.1 _ _ _ _ _ _ p.x_value s.at s.after c.home-e.ensures c.note-t.ensures c.note-u.ensures
    _ _ c.link-y.ensures c.link-z.ensures c.if-u-x.false c.if-t-x.true).view

pub returns-else-t-x : goal.returns-else-t-x
returns-else-t-x c =
    let p = c.requires in
    let k = holds c.self.invariant c.self.view_is in
    let s = stands_in k _ p.l_bound _ p.stands.0 in
    rw (c.set_link-2.ensures, c.set_link.ensures)
    (cut_inner_holds k _ p.l_bound _ p.stands.1 _ _ _ _ _ _ p.x_value s.at s.after c.home-e.ensures c.note-t.ensures c.note-u.ensures
    _ _ c.link-y.ensures c.link-z.ensures c.if-u-x.false c.if-t-x.false).view
