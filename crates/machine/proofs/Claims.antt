-- The machine is release/acquire, and for a robust program it reaches just the thread states that SC runs reach.
use Rattle.program.specs.Program.{Program}
use Rattle.program.specs.Within.{Valid}
use Rattle.model.proofs.Reachable.{sc_run_is_ra_run}
use Rattle.robustness.specs.Robust.{Robust}
use Rattle.machine.specs.Claims.{MachineIsRa, StateRobust}
use Rattle.machine.proofs.ToGraphs.{machine_reaches_no_more}
use Rattle.machine.proofs.FromGraphs.{machine_reaches_no_less}

pub machine_is_ra : {p : Program} → Valid p → MachineIsRa p
machine_is_ra valid = record { no_weaker = machine_reaches_no_more valid; no_stronger = machine_reaches_no_less }

pub robust_is_state_robust : {p : Program} → Valid p → Robust p → StateRobust p
robust_is_state_robust valid robust =
    record {
      no_more =
          λ schedule threads r. let weak = machine_reaches_no_more valid schedule threads r in
          let strong = robust schedule _ weak.1 in
          (strong.0, (weak.0, strong.1));
      no_less = λ schedule threads r. machine_reaches_no_less schedule threads (r.0, sc_run_is_ra_run r.1);
    }
