-- What document 01 says of graphs in so many words, as facts about the definitions.
use mathlib.Core.Path.{refl}
use mathlib.Core.List.{List, Memᴰ as Member}
use Prim.Native.Nat.{ℕ}
use Rattle.relations.specs.Closure.{Reaches, edge}
use Rattle.program.specs.Program.{Program}
use Rattle.program.specs.Thread.{Action}
use Rattle.model.specs.Graph.{Id, Graph, thread_events}
use Rattle.model.specs.Order.{FromRead, from_read, HappensBefore, ScOrder}
use Rattle.model.specs.Run.{Allowed}

module _ {g : Graph} where
  -- "itself excepted"
  pub no_from_read_to_itself : {r : Id} → FromRead g r r → ⊥
  no_from_read_to_itself h = h.other refl

  -- "SC order is the closure of happens-before, modification order and from-read."
  pub from_read_in_sc_order : {r b : Id} → FromRead g r b → ScOrder g r b
  from_read_in_sc_order h = edge (from_read h)

  -- "no later write to the location is an event of the thread or happens before one"
  pub picks_no_overwritten : {p : Program} {t : ℕ} {action : Action} {after : List Id} → Allowed p g t action after
      → (v : Id) → Member v after → Reaches (HappensBefore g) (thread_events g t) v → ⊥
  picks_no_overwritten h v m r = h.unseen v m r
