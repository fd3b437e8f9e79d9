use Rattle.std.proofs.Common.{◌≡◌, length}
use Rattle.replay.specs.Lines.{line_holds}
use Rattle.replay.specs.LineLaws.{Counting}
use Rattle.replay.proofs.Room.group.Given as goal

abbrev pub invariant-loop-line : goal.invariant-loop-line
invariant-loop-line g l = record {
  room : l.self ≡ l.initial.self;
  counting : Counting (line_holds l.initial.self) l.input l.left l.t;
}

abbrev pub decreases-loop-line : goal.decreases-loop-line
decreases-loop-line g l = length l.left
