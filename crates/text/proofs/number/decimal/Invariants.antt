use Rattle.std.proofs.Common.{◌≡◌, drop}
use Rattle.text.specs.Number.{digits, decimal}
use Rattle.text.proofs.number.decimal.Given as goal

-- the value so far, and the digits that are left
abbrev pub invariant-loop-b : goal.invariant-loop-b
invariant-loop-b l = digits l.value (drop l.b-index l.word) ≡ decimal l.word
