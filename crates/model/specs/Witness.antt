-- Witnesses: document 01, section "Graphs", and document 02, Point 5.
use Rattle.std.specs.Prelude.{ℕ, ◌<◌, ◌≡◌}
use mathlib.Core.List.{List, [], ◌∷◌, ◌++◌, Memᴰ as Member}
use Rattle.program.specs.Program.{Program, named_locations}
use Rattle.program.specs.Thread.{kind_of}
use Rattle.program.specs.declared.Kind.{Kind}
use Rattle.model.specs.Graph.{Id, thread_events, value_of}
use Rattle.model.specs.Order.{ScOrder}
use Rattle.model.specs.Run.{State, Access, Allowed, ScRun}

-- "a w other than the newest": something stands after the picked write, and the newest write is the last of that.
pub record Stale {p : Program} {s : State} {t : ℕ} (a : Access p s t) : Type 0 where
  pub between : List Id
  pub newest : Id
  pub last : a.after ≡ between ++ newest ∷ []

-- "A **witness** in a state reached by SC steps: the thread's next line allows an access, release/acquire allows it
-- with a w other than the newest, and the newest write comes before some event of that thread in SC order". A witness
-- has its thread t, its kind, its location x and the stale value u, the value of w.
pub record Witness (p : Program) (s : State) (t : ℕ) (kind : Kind) (x u : ℕ) : Type 0 where
  pub access : Access p s t
  pub allowed : Allowed p s.graph t access.effect.action access.after
  pub stale : Stale access
  pub event : Id
  pub own : Member event (thread_events s.graph t)
  pub known : ScOrder s.graph stale.newest event
  pub of_kind : kind_of access.effect.action ≡ kind
  pub of_location : access.location ≡ x
  pub of_value : value_of s.graph access.picked ≡ u

-- No state reached by SC steps has a witness.
abbrev pub NoWitness : Program → Type 0
NoWitness p =
    (schedule : List ℕ) (s : State) (t : ℕ) (kind : Kind) (x u : ℕ) → ScRun p schedule s → Witness p s t kind x u → ⊥

-- A fence's location "is never the one named in an NR line": each witness in a state reached by SC steps is at a named
-- location.
abbrev pub NamedOnly : Program → Type 0
NamedOnly p =
    (schedule : List ℕ) (s : State) (t : ℕ) (kind : Kind) (x u : ℕ) → ScRun p schedule s → Witness p s t kind x u
    → x < named_locations p
