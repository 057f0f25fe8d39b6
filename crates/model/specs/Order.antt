-- The orders on the events of a graph: document 01, section "Graphs".
use Rattle.std.specs.Prelude.{ℕ, ◌<◌, ◌≡◌, length}
use Rattle.std.proofs.Math.Option.{some}
use Rattle.relations.specs.Closure.{Relation, Closure, Precedes}
use Rattle.model.specs.Graph.{Id, start, event, Graph, events_of, order, event_at, source_of}

-- "thread order (starting writes before all others)"
pub data ThreadOrder (g : Graph) : Id → Id → Type 0 where
  starting : {x t i : ℕ} → x < length g.orders → i < length (events_of g t) → ThreadOrder g (start x) (event t i)
  within : {t i j : ℕ} → i < j → j < length (events_of g t) → ThreadOrder g (event t i) (event t j)

-- "reads-from": from a write to each event that reads it.
abbrev pub ReadsFrom : Graph → Relation Id
ReadsFrom g w r = source_of (event_at g r) ≡ some w

-- "for each location a total modification order of its writes"
pub data ModificationOrder (g : Graph) (a b : Id) : Type 0 where
  at : (x : ℕ) → Precedes a b (order g x) → ModificationOrder g a b

-- "From-read relates a read to every write later than the one it read, itself excepted."
pub record FromRead (g : Graph) (r b : Id) : Type 0 where
  pub source : Id
  pub read : ReadsFrom g source r
  pub later : ModificationOrder g source b
  pub other : r ≡ b → ⊥

-- Thread order and reads-from.
pub data HappensEdge (g : Graph) (a b : Id) : Type 0 where
  thread_order : ThreadOrder g a b → HappensEdge g a b
  reads_from : ReadsFrom g a b → HappensEdge g a b

-- "Happens-before is the closure of thread order (starting writes before all others) and reads-from."
abbrev pub HappensBefore : Graph → Relation Id
HappensBefore g = Closure (HappensEdge g)

-- Happens-before, modification order and from-read.
pub data ScEdge (g : Graph) (a b : Id) : Type 0 where
  happens_before : HappensBefore g a b → ScEdge g a b
  modification_order : ModificationOrder g a b → ScEdge g a b
  from_read : FromRead g a b → ScEdge g a b

-- "SC order is the closure of happens-before, modification order and from-read."
abbrev pub ScOrder : Graph → Relation Id
ScOrder g = Closure (ScEdge g)
