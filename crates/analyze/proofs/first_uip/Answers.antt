use Rattle.std.proofs.Common.{arith, ap}
use Rattle.model.specs.Lit.{var}
use Rattle.analyze.specs.Uip.{first_stored, first_joins, walk_starts, conflicted_lits, uip_is}
use Rattle.analyze.specs.Walking.{turn_var, turn_marks, walk_marks, walk_falls, walk_turns, walk_goes_on, walk_ends}
use Rattle.analyze.proofs.first_uip.Goals as goal

pub clause-requires : goal.clause-requires
clause-requires c = first_stored c.requires

pub join-path-requires : goal.join-path-requires
join-path-requires c = rw (c.push.ensures, c.clear.ensures, c.undef.ensures, c.clause.ensures) (first_joins c.requires)

pub loop-path-init : goal.loop-path-init
loop-path-init c = walk_starts c.requires (rw (c.push.ensures, c.clear.ensures, c.undef.ensures, c.clause.ensures) at c.join-path.ensures) c.assigned-i.ensures

pub last_seen-i-requires-clause-lits : goal.last_seen-i-requires-clause-lits
last_seen-i-requires-clause-lits c = rw (walk_marks c.loop-path.invariant) (conflicted_lits c.requires)

pub resolve_at-path-requires-clause-turning : goal.resolve_at-path-requires-clause-turning
resolve_at-path-requires-clause-turning c = walk_turns c.loop-path.invariant c.last_seen-i.ensures

pub loop-path-smaller : goal.loop-path-smaller
loop-path-smaller c = walk_falls c.loop-path.invariant c.last_seen-i.ensures

pub loop-path-preserved : goal.loop-path-preserved
loop-path-preserved c = walk_goes_on c.loop-path.invariant c.last_seen-i.ensures c.loop-path-test.true c.resolve_at-path.ensures

pub last_seen-requires-clause-lits : goal.last_seen-requires-clause-lits
last_seen-requires-clause-lits c = rw (walk_marks c.loop-path.invariant) (conflicted_lits c.requires)

pub at-p-requires : goal.at-p-requires
at-p-requires c = (walk_turns c.loop-path.invariant c.last_seen.ensures).inside

pub unset-requires : goal.unset-requires
unset-requires c =
    let u = walk_turns c.loop-path.invariant c.last_seen.ensures in
    omega (arith, c.var.ensures, ap var c.at-p.ensures, turn_var u, turn_marks u)

pub returns : goal.returns
returns c =
    let m = rw (c.var.ensures, c.at-p.ensures) at c.unset.ensures in
    let b = rw (c.negate.ensures, c.at-p.ensures) at c.set.ensures in
    uip_is c.requires (walk_ends c.loop-path.invariant c.last_seen.ensures c.loop-path-test.false m b)
