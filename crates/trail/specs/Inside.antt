-- A trail's fields as its parts, which say what they show and what is kept true of them.
use Rattle.trail.specs.View.{Assignment, Rep, assignment_of}
use Rattle.trail.specs.declared.Parts.{Parts}
use Rattle.trail.specs.declared.Trail.TheInside.{Inside}

abbrev pub parts_of : Inside → Parts
parts_of t =
    record {
      values = t.values;
      levels = t.levels;
      reasons = t.reasons;
      phases = t.phases;
      literals = t.literals;
      limits = t.limits;
      assigned = t.assigned;
      depth = t.depth;
    }

abbrev pub shown : Inside → Assignment
shown t = assignment_of (parts_of t)

abbrev pub Kept : Inside → Type 0
Kept t = Rep (parts_of t)
