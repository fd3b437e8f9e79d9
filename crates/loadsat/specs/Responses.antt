-- Why an input has no answers.
use Rattle.loadsat.specs.declared.Failure.{Failure}

-- what holds of an input that could not be read
abbrev pub IfUnread : Type 0 → Failure → Type 0
IfUnread P Failure.Unread = P
IfUnread P Failure.Unwritten = Unit {0}
