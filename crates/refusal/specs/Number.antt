-- The numbers of the rules in the tables of docs/FORMAT.md.
use Rattle.std.specs.Prelude.{ℕ}
use Rattle.refusal.specs.declared.Rule.{Rule}
use Rattle.refusal.specs.declared.Rule.TheVariants.{ShortHeader, BadVariables, BadLimits, BadOptions, ShortWork, ShortActivities, BadRecord, CutRecord, BadLiteral, BadCount, BadBudget, ShortOut, BadKey, BadNumber, LongText, BadCounted, SharedVariable, ShortClauses}

abbrev pub number : Rule → ℕ
number ShortHeader = 1
number BadVariables = 2
number BadLimits = 3
number BadOptions = 4
number ShortWork = 5
number ShortActivities = 6
number BadRecord = 7
number CutRecord = 8
number BadLiteral = 9
number BadCount = 10
number BadBudget = 11
number ShortOut = 12
number BadKey = 13
number BadNumber = 14
number LongText = 15
number BadCounted = 18
number SharedVariable = 19
number ShortClauses = 20
