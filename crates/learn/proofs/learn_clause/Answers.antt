use Rattle.std.proofs.Common.{ap, ◌∙◌, ◌≡◌, get_or}
use Rattle.scratch.specs.declared.Scratch.{Scratch}
use Rattle.learn.specs.Backtracking.{uip_in, storing_asks, stored_beside, learnt_room, learnt_has}
use Rattle.learn.proofs.learn_clause.Goals as goal

pub store_buffer-requires : goal.store_buffer-requires
store_buffer-requires c =
    let k = c.cancel_until.ensures in
    storing_asks c.args.s.now c.args.level c.requires _ k.has k.beside k.stored.1

pub enqueue-requires-clause-room : goal.enqueue-requires-clause-room
enqueue-requires-clause-room c =
    let k = c.cancel_until.ensures in
    learnt_room c.args.s.now c.args.level c.requires _ k.has k.beside k.stored.1 _ c.store_buffer.ensures

pub returns-clause-has : goal.returns-clause-has
returns-clause-has c =
    let k = c.cancel_until.ensures in
    let b = stored_beside c.args.s.now c.args.level c.requires _ k.has k.beside k.stored.1 _ c.store_buffer.ensures in
    let q : c.at.result.0 ≡ uip_in c.args.s.now = c.at.ensures ∙ ap (λ (x : Scratch). get_or x.buffer.items 0 0) b.scratch in
    rw (c.enqueue.ensures, q) (learnt_has c.args.s.now c.args.level c.requires _ k.has k.beside k.stored.1 _ c.store_buffer.ensures _ c.len-c.ensures)
