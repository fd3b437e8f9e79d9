use Prim.Native.Nat.{◌*◌}
use Rattle.watch.specs.View.{attached}
use Rattle.watch.specs.Sizes.{appended_sizes}
use Rattle.watch.specs.Uses.{first_free, second_free}
use Rattle.watch.proofs.Watches.attach.Goals as goal

pub append-requires-clause-free : goal.append-requires-clause-free
append-requires-clause-free c = first_free c.args.c c.args.p.0 c.args.q.0 c.args.self.now c.requires.under

pub append-requires-2-clause-bounds : goal.append-requires-2-clause-bounds
append-requires-2-clause-bounds c =
    let e = appended_sizes c.negate.result.0 (2 * c.args.c) c.args.q.0 c.args.self.now in
    rw (c.append.ensures, e.lists, e.blockers, c.negate-2.ensures) (c.requires.bounds.1, c.requires.bounds.2)

pub append-requires-2-clause-free : goal.append-requires-2-clause-free
append-requires-2-clause-free c =
    rw (c.append.ensures, c.negate.ensures) (second_free c.args.c c.args.p.0 c.args.q.0 _ c.requires.under c.requires.bounds.0)

pub returns : goal.returns
unfolding attached
returns c = rw (c.append-2.ensures, c.append.ensures, c.negate.ensures, c.negate-2.ensures)
