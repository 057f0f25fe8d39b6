-- What the reader tells of an input.
use Rattle.std.specs.Prelude.{Result}
use Rattle.program.specs.Outcome.{Outcome, told}
use Rattle.program.specs.Number.{outcome_of}
use Rattle.program.specs.declared.Refusal.{Refusal}
use Rattle.format.specs.declared.Header.{Header}
use Rattle.format.specs.declared.source.Source.{Source}

-- The number of the first failed check, or the header that was read.
abbrev pub header_read : Result Source Refusal → Outcome Header
header_read result = told (λ source. source.header) (outcome_of result)
