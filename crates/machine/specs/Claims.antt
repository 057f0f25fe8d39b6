-- What is shown of the machine: document 02, Point 6. Here, and not in the machine's own definitions, graphs come in.
use Rattle.std.specs.Prelude.{ℕ, List}
use Rattle.program.specs.Program.{Program}
use Rattle.program.specs.Thread.{ThreadState}
use Rattle.model.specs.Graph.{Graph}
use Rattle.model.specs.Run.{Rule, Newest, Allowed, Run}
use Rattle.machine.specs.Machine.{MachineReaches}

-- Runs that build graphs, by the rule, reach these thread states by the schedule.
abbrev pub GraphsReach : Rule → Program → (schedule : List ℕ) → List ThreadState → Type 0
GraphsReach rule p schedule threads = (g : Graph) × Run p rule schedule (record { threads = threads; graph = g })

-- SC runs, and release/acquire runs.
abbrev pub ScReaches : Program → (schedule : List ℕ) → List ThreadState → Type 0
ScReaches = GraphsReach Newest

abbrev pub RaReaches : Program → (schedule : List ℕ) → List ThreadState → Type 0
RaReaches = GraphsReach Allowed

-- The machine is release/acquire, no stronger and no weaker: by each schedule it reaches just the thread states that
-- release/acquire runs reach.
pub record MachineIsRa (p : Program) : Type 0 where
  pub no_weaker : (schedule : List ℕ) (threads : List ThreadState) → MachineReaches p schedule threads
      → RaReaches p schedule threads
  pub no_stronger : (schedule : List ℕ) (threads : List ThreadState) → RaReaches p schedule threads
      → MachineReaches p schedule threads

-- "the thread states that this machine reaches from the start of a program reported RB are exactly those that SC runs
-- reach": it reaches no others, whatever the schedule, and all of those, by the same schedule. The first is what source
-- document 001 calls state robustness, and the second holds of every program.
pub record StateRobust (p : Program) : Type 0 where
  pub no_more : (schedule : List ℕ) (threads : List ThreadState) → MachineReaches p schedule threads
      → (schedule' : List ℕ) × ScReaches p schedule' threads
  pub no_less : (schedule : List ℕ) (threads : List ThreadState) → ScReaches p schedule threads
      → MachineReaches p schedule threads
