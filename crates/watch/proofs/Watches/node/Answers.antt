use native.Mathlib.Omega.{arith}
use mathlib.Core.Path.{◌∙◌}
use Rattle.watch.specs.Stores.{holds, node_of, blockers_length}
use Rattle.watch.specs.Walk.{at_low, cursor_node}
use Rattle.watch.proofs.Watches.node.Goals as goal

pub link-requires : goal.link-requires
link-requires c = at_low (holds c.self.invariant c.self.view_is) _ c.requires.l_bound _ c.requires.stands.0

pub returns : goal.returns
returns c =
    let p = c.requires in
    let k = holds c.self.invariant c.self.view_is in
    let e = c.link.ensures ∙ cursor_node k _ p.l_bound _ p.stands.0 p.stands.1 in
    (e, omega (arith, e, node_of k _ p.l_bound _ p.stands.1, blockers_length k))
