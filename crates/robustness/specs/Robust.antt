-- What a program's robustness means, on runs of any length: demand 3 of document 01's customer. The definitions stand
-- beside the theorems that use them.
use Rattle.std.specs.Prelude.{ℕ, ◌≡◌, List}
use Rattle.program.specs.Program.{Program}
use Rattle.program.specs.declared.Kind.{Kind}
use Rattle.model.specs.Graph.{Graph, value_of}
use Rattle.model.specs.Run.{State, Access, state_after, graph_after, RaStep, ScRun, RaRun}
use Rattle.model.specs.Witness.{Stale, Witness}

-- Robust: every release/acquire run, of any length, ends in thread states and a graph that some SC run reaches.
abbrev pub Robust : Program → Type 0
Robust p = (schedule : List ℕ) (s : State) → RaRun p schedule s → (schedule' : List ℕ) × ScRun p schedule' s

-- No SC run, of any length, builds the graph.
abbrev pub BeyondSc : Program → Graph → Type 0
BeyondSc p g = (schedule : List ℕ) (s : State) → ScRun p schedule s → s.graph ≡ g → ⊥

-- Not robust, as a report names it: the steps of the schedule, each with the newest write, and then the access of a
-- witness of these four are a release/acquire run; and whichever stale write of value u the thread's next line picks
-- there, no SC run builds the graph after it.
pub record NotRobust (p : Program) (schedule : List ℕ) (t : ℕ) (kind : Kind) (x u : ℕ) : Type 0 where
  -- The state that the SC steps of the schedule reach.
  pub state : State
  pub run : ScRun p schedule state
  -- "an SC step is also the release/acquire step that picks the newest write": they reach this very state as a
  -- release/acquire run too.
  pub weak_run : RaRun p schedule state
  -- There the named access is one release/acquire step more.
  pub witness : Witness p state t kind x u
  pub weak_step : RaStep p t state (state_after witness.access)
  pub beyond : (a : Access p state t) → Stale a → value_of state.graph a.picked ≡ u → BeyondSc p (graph_after a)
