use native.Mathlib.Omega.{arith}
use mathlib.Core.Path.{ap, ◌∙◌}
use lib.ListN.{get_or}
use Rattle.watch.specs.Stores.{holds, slot_low, home_low}
use Rattle.watch.specs.Walk.{at_end}
use Rattle.watch.proofs.Watches.more.Goals as goal

pub home-e-requires-clause-l_lt_slots : goal.home-e-requires-clause-l_lt_slots
home-e-requires-clause-l_lt_slots c = slot_low (holds c.self.invariant c.self.view_is) _ c.requires.l_bound

pub note-requires : goal.note-requires
note-requires c = omega (arith, c.home-e.ensures, home_low (holds c.self.invariant c.self.view_is) _ c.requires.l_bound)

pub returns : goal.returns
returns c =
    at_end (holds c.self.invariant c.self.view_is) _ c.requires.l_bound _ c.requires.stands c.note.result
    (c.note.ensures ∙ ap (λ e. get_or c.self.inside.table.notes e 0) c.home-e.ensures)
