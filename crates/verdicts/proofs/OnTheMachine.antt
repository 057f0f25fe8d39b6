-- Every accepted program, robust or not: the timestamp machine reaches the thread states that release/acquire runs
-- reach.
use Prim.Native.Nat.{ℕ}
use mathlib.Core.Path.{◌≡◌}
use mathlib.Core.List.{List}
use Rattle.program.specs.Program.{Program}
use Rattle.program.specs.Outcome.{accepted}
use Rattle.program.specs.Format.{read_program}
use Rattle.machine.specs.Claims.{MachineIsRa}
use Rattle.machine.proofs.Claims.{machine_is_ra}
use Rattle.verdicts.proofs.Computed.{accepted_valid}

pub accepted_machine_is_ra : (bytes : List ℕ) {p : Program} → read_program bytes ≡ accepted p → MachineIsRa p
accepted_machine_is_ra bytes e = machine_is_ra (accepted_valid bytes e)
