-- A program within the limits is valid.
use native.Mathlib.Omega.{arith}
use Rattle.program.specs.Program.{Program}
use Rattle.program.specs.Within.{Within, Valid}
use Rattle.program.proofs.AllLaws.{all_with}
use Rattle.program.proofs.Fences.{some_in_all}
use Rattle.program.proofs.LargerLimits.{line_in_larger}

pub within_valid : {p : Program} → Within p → Valid p
within_valid w =
    record {
      some_values = w.some_values;
      each =
          all_with
          (λ lines h. all_with (line_in_larger (omega arith) (omega arith) (omega arith) (λ _. some_in_all w)) h.each)
          w.each;
    }
