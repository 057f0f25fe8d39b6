-- Times that fit a graph: they rise along each modification order, and leave no room before a read-modify-write.
use mathlib.Core.Path.{◌≡◌}
use mathlib.Core.Option.{some}
use Prim.Native.Nat.{ℕ, suc, ◌<◌}
use Rattle.relations.specs.Closure.{Precedes}
use Rattle.model.specs.Graph.{Id, start, update_e, Graph, order, event_at}
use Rattle.model.proofs.Growth.{Addition, grown, precedes_stays, event_stays}

pub record Fits (g : Graph) (time : Id → ℕ) : Type 0 where
  pub rising : (x : ℕ) {a b : Id} → Precedes a b (order g x) → time a < time b
  pub updated : (a : Id) {x u v : ℕ} {w : Id} → event_at g a ≡ some (update_e x u v w) → time a ≡ suc (time w)
  pub started : (x : ℕ) → time (start x) ≡ 0

-- Times that fit a graph fit it before its last access too.
pub fits_earlier : {g : Graph} {time : Id → ℕ} (d : Addition g) → Fits (grown d) time → Fits g time
fits_earlier d f =
    record {
      rising = λ x h. f.rising x (precedes_stays d x h);
      updated = λ a h. f.updated a (event_stays d a h);
      started = f.started;
    }
