use Rattle.minimise.specs.Minimised.{ready_var, ready_room, ready_minimising, ready_noted, ready_minimised}
use Rattle.minimise.proofs.minimise.Goals as goal

pub abstract_levels-mask-requires : goal.abstract_levels-mask-requires
abstract_levels-mask-requires c = ready_var c.requires

pub note_rest-requires : goal.note_rest-requires
note_rest-requires c = ready_room c.requires

pub drop_redundant-requires : goal.drop_redundant-requires
drop_redundant-requires c = ready_minimising c.requires c.note_rest.ensures.items c.note_rest.ensures.cells

pub unmark-requires : goal.unmark-requires
unmark-requires c = ready_noted c.requires c.note_rest.ensures.items c.note_rest.ensures.cells c.abstract_levels-mask.ensures c.drop_redundant.ensures

pub returns : goal.returns
returns c =
    ready_minimised c.requires c.note_rest.ensures.items c.note_rest.ensures.cells c.abstract_levels-mask.ensures c.drop_redundant.ensures _ _ c.unmark.ensures
