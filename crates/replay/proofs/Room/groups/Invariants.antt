use Rattle.std.proofs.Common.{◌≡◌, length}
use Rattle.replay.specs.Lines.{line_holds}
use Rattle.replay.specs.LineLaws.{Totalling}
use Rattle.replay.proofs.Room.groups.Given as goal

abbrev pub invariant-loop-left : goal.invariant-loop-left
invariant-loop-left g l = record {
  room : l.self ≡ l.initial.self;
  totalling : Totalling (line_holds l.initial.self) l.input l.left l.all;
}

abbrev pub decreases-loop-left : goal.decreases-loop-left
decreases-loop-left g l = length l.left
