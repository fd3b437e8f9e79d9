use Rattle.std.proofs.Common.{◌≡◌, length, rules}
use Rattle.std.specs.Prelude.{replicate}
use Rattle.litset.specs.Laws.{none_set, no_flags}
use Rattle.litset.proofs.LitSet.new.Goals as goal

pub invariant_of-result : goal.invariant_of-result
invariant_of-result c =
    let e : c.fill.new.self ≡ replicate (length c.args.flags.now) 0 = search rules in
    rw (e, c.new.ensures) (none_set _ (no_flags _))
