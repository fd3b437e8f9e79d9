use Rattle.std.proofs.Common.{ap, ◌∙◌, ◌≡◌, get_or}
use Rattle.scratch.specs.declared.Scratch.{Scratch}
use Rattle.learn.specs.Backtracking.{uip_in, back_room, unit_has}
use Rattle.learn.proofs.learn_unit.Goals as goal

pub enqueue-requires-clause-room : goal.enqueue-requires-clause-room
enqueue-requires-clause-room c =
    let k = c.cancel_until.ensures in
    back_room c.args.s.now c.requires.still 0 _ _ c.requires.asserting _ k.has k.beside

pub returns-clause-has : goal.returns-clause-has
returns-clause-has c =
    let k = c.cancel_until.ensures in
    let q : c.at.result.0 ≡ uip_in c.args.s.now = c.at.ensures ∙ ap (λ (x : Scratch). get_or x.buffer.items 0 0) k.beside.scratch in
    rw (c.enqueue.ensures, q) (unit_has c.args.s.now c.requires _ k.has k.beside)
