-- The places of the writes in the modification orders of a release/acquire run's last graph are times that fit it.
use mathlib.Core.Path.{◌≡◌, refl, sym, ap, ◌∙◌}
use mathlib.Core.List.{List, Memᴰ as Member}
use mathlib.Core.Option.{Option, none, some}
use Prim.Native.Nat.{ℕ, suc, ◌<◌}
use native.Mathlib.Omega.{arith}
use Rattle.relations.specs.Closure.{Precedes}
use Rattle.relations.proofs.Precedes.{precedes_members}
use Rattle.program.specs.Program.{Program}
use Rattle.model.specs.Graph.{Id, start, Event, Graph, order, event_at, location_of}
use Rattle.model.specs.Run.{State, RaRun}
use Rattle.model.proofs.Decidable.{id_discrete}
use Rattle.model.proofs.Lookup.{start_is}
use Rattle.model.proofs.WellFormed.{WellFormed, write_location}
use Rattle.model.proofs.Reachable.{run_good}
use Rattle.machine.proofs.Fits.{Fits}
use Rattle.machine.proofs.Place.{DirectlyAfter, place, directly_after_precedes, place_of_head}
use Rattle.machine.proofs.Place.{earlier_has_smaller_place, next_has_next_place}
use Rattle.machine.proofs.Atomic.{update_follows_its_write}

-- The place of the id a in the modification order of an event's location; 0 where there is no event.
unfoldable pub place_at : Graph → Id → Option Event → ℕ
place_at g a none = 0
place_at g a (some e) = place id_discrete a (order g (location_of e))

-- The place of a write in the modification order of its location, counted from 0.
unfoldable pub place_in : Graph → Id → ℕ
place_in g a = place_at g a (event_at g a)

module _ {g : Graph} (f : WellFormed g) where
  pub place_of_listed : (x : ℕ) (a : Id) → Member a (order g x) → place_in g a ≡ place id_discrete a (order g x)
  unfolding place_in place_at
  place_of_listed x a m =
      let w = f.listed_writes x a m in
      ap (place_at g a) w.there ∙ ap (λ y. place id_discrete a (order g y)) (write_location w.write w.to)

  pub place_of_start : (x : ℕ) → place_in g (start x) ≡ 0
  unfolding place_in place_at location_of
  place_of_start x = go (event_at g (start x)) refl
    where
      go : (e : Option Event) → event_at g (start x) ≡ e → place_at g (start x) e ≡ 0
      go none h = refl
      go (some v) h =
          let r = start_is g x h in
          let o = f.headed x r.1 in
          ap (λ c. place id_discrete (start x) (order g (location_of c))) r.0
          ∙ ap (place id_discrete (start x)) o.1
          ∙ place_of_head id_discrete o.0 refl

  places_rise : (x : ℕ) {a b : Id} → Precedes a b (order g x) → place_in g a < place_in g b
  places_rise x {a} {b} h =
      let m = precedes_members (order g x) h in
      let p = place_of_listed x a m.0 in
      let q = place_of_listed x b m.1 in
      let r = earlier_has_smaller_place id_discrete (order g x) (f.no_repeats x) h in
      omega arith

  place_directly_after : (x : ℕ) {a b : Id} → DirectlyAfter a b (order g x) → place_in g b ≡ suc (place_in g a)
  place_directly_after x {a} {b} h =
      let m = precedes_members (order g x) (directly_after_precedes (order g x) h) in
      place_of_listed x b m.1 ∙ next_has_next_place id_discrete (order g x) (f.no_repeats x) h
      ∙ ap suc (sym (place_of_listed x a m.0))

-- The places of every run fit: a read-modify-write has the next place after the write that it reads, by atomicity.
pub run_fits : {p : Program} {schedule : List ℕ} {s : State} → RaRun p schedule s → Fits s.graph (place_in s.graph)
run_fits r =
    let f = (run_good r).well_formed in
    record {
      rising = places_rise f;
      updated = λ a {x} h. place_directly_after f x (update_follows_its_write r a h);
      started = place_of_start f;
    }
