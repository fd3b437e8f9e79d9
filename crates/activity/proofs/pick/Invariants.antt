use Prim.Native.Nat.{◌≤◌}
use mathlib.Core.Path.{◌≡◌}
use Rattle.std.specs.Prelude.{None as none, Some as some}
use lib.ListN.{length, drop}
use Rattle.model.specs.Decide.{pick}
use Rattle.activity.specs.Leading.{Leads}
use Rattle.activity.proofs.pick.Given as goal

abbrev pub invariant-loop-i : goal.invariant-loop-i
invariant-loop-i l = record {
  in_range : l.i ≤ length l.values;
  leads : Leads l.act l.values l.b;
  same : pick l.act (some l.b.var.0) l.i (drop l.i l.values) ≡ pick l.act none 0 l.values;
}
