use Rattle.std.proofs.Common.{sym}
use Rattle.watch.specs.Sizes.{unlinked_sizes}
use Rattle.watch.specs.Meaning.{moved_is}
use Rattle.watch.specs.Steps.{node_small}
use Rattle.watch.specs.Uses.{unlinked_free}
use Rattle.watch.specs.Walk.{cursor_gone}
use Rattle.watch.proofs.Watches.leave.Goals as goal

pub append-requires-clause-bounds : goal.append-requires-clause-bounds
append-requires-clause-bounds c =
    let p = c.requires in
    let k = c.sound.ensures.chains in
    let e = unlinked_sizes c.args.l.0 c.args.c.passed c.args.self.now in
    rw (c.unlink.ensures, e.lists, e.blockers, p.x_value) (p.lists.1, node_small c.args.self.now k _ p.lists.0 _ p.stands.1)

pub append-requires-clause-free : goal.append-requires-clause-free
append-requires-clause-free c =
    let p = c.requires in
    let k = c.sound.ensures.chains in
    rw (c.unlink.ensures, p.x_value) (unlinked_free _ _ _ p.lists.0 p.stands.1 k.apart)

pub returns : goal.returns
returns c =
    let p = c.requires in
    cursor_gone _ _ _ _ _ _ p.lists.2 p.lists.0 p.stands.0 p.stands.1
    (rw (c.append.ensures, c.unlink.ensures, p.x_value) (sym (moved_is _ _ _ _ _ p.lists.2)))
