-- The numbers of the checks before the search, which docs/FORMAT.md lists, and what the code's answer of a reading is.
use Rattle.std.specs.Prelude.{ℕ, Result, Ok, Err}
use Rattle.program.specs.Outcome.{Outcome}
use Rattle.program.specs.Outcome.Outcome.{refused, accepted}
use Rattle.program.specs.declared.Refusal.{Refusal}
use Rattle.program.specs.declared.Refusal.TheVariants.{NoHeader, OutOfRange, NoRecord, TooManyLines, NoSuchOp}
use Rattle.program.specs.declared.Refusal.TheVariants.{NoRoomForFence, BadFields, NoSuchTarget, NoSuchOperand, MoreBytes}

-- "Checks, in this order": the number of each, and 12 of the one that is asked "directly after check 5".
abbrev pub refusal_number : Refusal → ℕ
refusal_number NoHeader = 1
refusal_number OutOfRange = 2
refusal_number NoRecord = 3
refusal_number TooManyLines = 4
refusal_number NoSuchOp = 5
refusal_number NoRoomForFence = 12
refusal_number BadFields = 6
refusal_number NoSuchTarget = 7
refusal_number NoSuchOperand = 8
refusal_number MoreBytes = 9

-- A result as an outcome: a refusal stands for its number.
abbrev pub outcome_of : {A : Type 0} → Result A Refusal → Outcome A
outcome_of (Ok a) = accepted a
outcome_of (Err refusal) = refused (refusal_number refusal)
