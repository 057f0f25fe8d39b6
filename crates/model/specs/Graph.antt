-- Execution graphs: document 01, section "Graphs". Two graphs "are the same when they have the same events, each with
-- the same kind, location, value read and value written, the same reads-from and the same modification orders": here
-- that is plain equality.
use Rattle.std.specs.Prelude.{ℕ, zero, suc, Bool, true, false, cond, List, [], ◌∷◌, ◌++◌, map, ltb, length, get_or, set}
use Rattle.std.proofs.Math.Option.{Option, none, some}
use Rattle.std.proofs.Math.ListN.{get_elem?}
use Rattle.program.specs.Program.{Program, Line}
use Rattle.program.specs.Thread.{Action, reads, writes, updates}

-- "An event is known by its thread and its place in that thread's order, a starting write by its location." Threads
-- and places are counted from 0.
pub data Id : Type 0 where
  start : (location : ℕ) → Id
  event : (thread place : ℕ) → Id

-- "each thread's reads, writes and read-modify-writes": each with its location, the value read and the write that it
-- reads from, and the value written.
pub data Event : Type 0 where
  read_e : (location found : ℕ) (source : Id) → Event
  write_e : (location value : ℕ) → Event
  update_e : (location found value : ℕ) (source : Id) → Event

-- The events of each thread in order, and the modification order of each location, oldest first. The starting writes
-- are those of the locations that have an order.
pub record Graph : Type 0 where
  pub events : List (List Event)
  pub orders : List (List Id)

-- The events of thread t, in order.
abbrev pub events_of : Graph → ℕ → List Event
events_of g t = get_or g.events t []

-- The modification order of location x, oldest first.
abbrev pub order : Graph → ℕ → List Id
order g x = get_or g.orders x []

-- The event of an id: "one starting write of 0 per location, then each thread's reads, writes and read-modify-writes
-- in order".
unfoldable pub event_at : Graph → Id → Option Event
event_at g (start x) = cond (ltb x (length g.orders)) (some (write_e x 0)) none
event_at g (event t i) = get_elem? (events_of g t) i

-- The numbers below n, in order.
unfoldable pub below : ℕ → List ℕ
below zero = []
below (suc n) = below n ++ n ∷ []

-- The ids of thread t's events.
unfoldable pub thread_events : Graph → ℕ → List Id
thread_events g t = map (event t) (below (length (events_of g t)))

-- The location of an event.
unfoldable pub location_of : Event → ℕ
location_of (read_e x u w) = x
location_of (write_e x v) = x
location_of (update_e x u v w) = x

-- The write that an event reads from.
unfoldable pub source_of : Option Event → Option Id
source_of none = none
source_of (some (read_e x u w)) = some w
source_of (some (write_e x v)) = none
source_of (some (update_e x u v w)) = some w

-- The value that an event writes; 0 where it writes none.
unfoldable pub value_written : Option Event → ℕ
value_written none = 0
value_written (some (read_e x u w)) = 0
value_written (some (write_e x v)) = v
value_written (some (update_e x u v w)) = v

-- The value of a write.
abbrev pub value_of : Graph → Id → ℕ
value_of g w = value_written (event_at g w)

-- An event is a read-modify-write.
unfoldable pub is_update : Option Event → Bool
is_update none = false
is_update (some (read_e x u w)) = false
is_update (some (write_e x v)) = false
is_update (some (update_e x u v w)) = true

-- "the graph of the starting writes alone"
unfoldable pub start_graph : Program → Graph
start_graph p =
    record {
      events = map (λ (ls : List Line). []) p.threads;
      orders = map (λ x. start x ∷ []) (below p.locations);
    }

-- The id of the next event of thread t.
abbrev pub next_id : Graph → ℕ → Id
next_id g t = event t (length (events_of g t))

-- The event of an access at x that picks a write w of value u: "a read reads w, a write goes directly after w, a
-- read-modify-write does both".
unfoldable pub event_of : Action → (x u : ℕ) → Id → Event
event_of reads x u w = read_e x u w
event_of (writes v) x u w = write_e x v
event_of (updates v) x u w = update_e x u v w

-- What stands after the picked write once an access with the id e is made: "a write goes directly after w".
unfoldable pub directly_after : Action → Id → List Id → List Id
directly_after reads e after = after
directly_after (writes v) e after = e ∷ after
directly_after (updates v) e after = e ∷ after

-- The graph with one more event, the last of thread t, and with the order l at location x.
unfoldable pub extend : Graph → (t : ℕ) → Event → (x : ℕ) → List Id → Graph
extend g t e x l = record { events = set g.events t (events_of g t ++ e ∷ []); orders = set g.orders x l }
