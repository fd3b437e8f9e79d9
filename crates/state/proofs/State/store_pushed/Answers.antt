use Rattle.std.proofs.Common.{refl}
use Rattle.state.specs.Fresh.{closed_last, attach_is, fresh_attached}
use Rattle.state.proofs.State.store_pushed.Goals as goal

pub returns : goal.returns
returns c =
    let k = c.args.self.now.clauses in
    let w = c.args.self.now.watches in
    let s = c.requires in
    rw (c.attach.ensures, c.lit-p.ensures, c.lit-q.ensures, c.close.ensures, c.len-c.ensures, closed_last k w s)
    record { is = refl; store = attach_is k w s; fresh = fresh_attached k w s }
