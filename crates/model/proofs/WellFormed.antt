-- What holds of every graph that runs build, under either rule, and that each access keeps it.
use mathlib.Core.Path.{◌≡◌, refl, sym, ap, ◌∙◌, subst, subst⁻¹}
use mathlib.Core.Bool.{true}
use mathlib.Core.List.Memᴰ
use mathlib.Core.List.{List, ◌∷◌, ◌++◌, Memᴰ as Member}
use mathlib.Core.Option.{Option, none, some}
use mathlib.Core.Logic.{⊎_elim}
use Prim.Native.Nat.{ℕ, ◌<◌}
use native.Mathlib.Omega.{arith}
use lib.ListN.{length}
use Rattle.relations.specs.Closure.{Precedes}
use Rattle.program.specs.Thread.{Action, reads, writes, updates, writing}
use Rattle.lists.proofs.Ends.{same_head}
use Rattle.model.specs.Graph.{Id, start, Event, read_e, write_e, update_e, Graph, order, event_at, location_of}
use Rattle.model.specs.Graph.{source_of, next_id, event_of}
use Rattle.model.proofs.Lookup.{present_not_next}
use Rattle.model.proofs.Growth.{Addition, in_order, new_id, new_event, grown, up_to_picked, OrderAfter, unchanged}
use Rattle.model.proofs.Growth.{put_in, order_after, member_stays, member_old_or_new, precedes_old_or_new}
use Rattle.model.proofs.Growth.{event_stays, old_order, new_listed, new_there, there_old_or_new, locations_stay}

-- The location that an event writes.
unfoldable pub writes_to : Event → Option ℕ
writes_to (read_e x u w) = none
writes_to (write_e x v) = some x
writes_to (update_e x u v w) = some x

pub write_location : (v : Event) {x : ℕ} → writes_to v ≡ some x → location_of v ≡ x
unfolding writes_to location_of
write_location (read_e y u w) h = absurd (let z : ◌≡◌ {A = ℕ} 0 1 = cc in omega arith)
write_location (write_e y v) h = cc
write_location (update_e y u v w) h = cc

-- The id a is that of a write to x.
pub record WriteTo (g : Graph) (x : ℕ) (a : Id) : Type 0 where
  pub write : Event
  pub there : event_at g a ≡ some write
  pub to : writes_to write ≡ some x

pub record WellFormed (g : Graph) : Type 0 where
  -- a location's order lists writes to it
  pub listed_writes : (x : ℕ) (a : Id) → Member a (order g x) → WriteTo g x a
  -- and all of them
  pub writes_listed : (x : ℕ) (a : Id) → WriteTo g x a → Member a (order g x)
  -- what is read is a write to the location
  pub sources_listed : (r w : Id) (v : Event) → event_at g r ≡ some v → source_of (some v) ≡ some w
      → Member w (order g (location_of v))
  -- no write stands twice in an order
  pub no_repeats : (x : ℕ) (a : Id) → Precedes a a (order g x) → ⊥
  -- each order starts with the starting write
  pub headed : (x : ℕ) → x < length g.orders → (rest : List Id) × (order g x ≡ start x ∷ rest)

-- What stands in an order is no new id.
pub listed_not_next : {g : Graph} → WellFormed g → (t x : ℕ) (a : Id) → Member a (order g x) → a ≡ next_id g t → ⊥
listed_not_next {g} f t x a m = present_not_next g t a (f.listed_writes x a m).there

pub new_unlisted : {g : Graph} → WellFormed g → (d : Addition g) (x : ℕ) → Member (new_id d) (order g x) → ⊥
new_unlisted f d x m = listed_not_next f d.thread x (new_id d) m refl

-- A write that stands in an order is the same event in the graph that has grown.
pub listed_event_stays : {g : Graph} → WellFormed g → (d : Addition g) (x : ℕ) (a : Id) → Member a (order g x)
    → event_at (grown d) a ≡ event_at g a
listed_event_stays f d x a m = let w = f.listed_writes x a m in event_stays d a w.there ∙ sym w.there

-- What an access adds, by its action.
pub new_write_to : (a : Action) (x u : ℕ) (w : Id) → writing a ≡ true → writes_to (event_of a x u w) ≡ some x
unfolding writing writes_to event_of
new_write_to reads x u w h = absurd (let z : ◌≡◌ {A = ℕ} 0 1 = cc in omega arith)
new_write_to (writes v) x u w h = refl
new_write_to (updates v) x u w h = refl

pub new_writes : (a : Action) (x u : ℕ) (w : Id) {y : ℕ} → writes_to (event_of a x u w) ≡ some y
    → (writing a ≡ true) × (y ≡ x)
unfolding writing writes_to event_of
new_writes reads x u w h = absurd (let z : ◌≡◌ {A = ℕ} 0 1 = cc in omega arith)
new_writes (writes v) x u w h = (refl, cc)
new_writes (updates v) x u w h = (refl, cc)

pub new_location : (a : Action) (x u : ℕ) (w : Id) → location_of (event_of a x u w) ≡ x
unfolding location_of event_of
new_location reads x u w = refl
new_location (writes v) x u w = refl
new_location (updates v) x u w = refl

pub new_source : (a : Action) (x u : ℕ) (w : Id) {w' : Id} → source_of (some (event_of a x u w)) ≡ some w' → w' ≡ w
unfolding source_of event_of
new_source reads x u w h = cc
new_source (writes v) x u w h = absurd (let z : ◌≡◌ {A = ℕ} 0 1 = cc in omega arith)
new_source (updates v) x u w h = cc

module _ {g : Graph} (f : WellFormed g) (d : Addition g) where
  listed_writes_kept : (x : ℕ) (a : Id) → Member a (order (grown d) x) → WriteTo (grown d) x a
  listed_writes_kept x a m = ⊎_elim fresh old (member_old_or_new d x m)
    where
      fresh : (a ≡ new_id d) × (x ≡ d.location) × (writing d.action ≡ true) → WriteTo (grown d) x a
      fresh n =
          record {
            write = new_event d;
            there = ap (event_at (grown d)) n.0 ∙ new_there d;
            to = new_write_to d.action d.location _ d.picked n.2 ∙ ap some (sym n.1);
          }

      old : Member a (order g x) → WriteTo (grown d) x a
      old k =
          let w = f.listed_writes x a k in
          record { write = w.write; there = event_stays d a w.there; to = w.to }

  writes_listed_kept : (x : ℕ) (a : Id) → WriteTo (grown d) x a → Member a (order (grown d) x)
  writes_listed_kept x a w = ⊎_elim fresh old (there_old_or_new d a w.there)
    where
      old : event_at g a ≡ some w.write → Member a (order (grown d) x)
      old k = member_stays d x (f.writes_listed x a (record { write = w.write; there = k; to = w.to }))

      fresh : (a ≡ new_id d) × (w.write ≡ new_event d) → Member a (order (grown d) x)
      fresh n =
          let r = new_writes d.action d.location _ d.picked (ap writes_to (sym n.1) ∙ w.to) in
          subst⁻¹ (λ b. Member b (order (grown d) x)) n.0
          (subst⁻¹ (λ y. Member (new_id d) (order (grown d) y)) r.1 (new_listed d r.0))

  sources_listed_kept : (r w : Id) (v : Event) → event_at (grown d) r ≡ some v → source_of (some v) ≡ some w
      → Member w (order (grown d) (location_of v))
  sources_listed_kept r w v h k = ⊎_elim fresh old (there_old_or_new d r h)
    where
      old : event_at g r ≡ some v → Member w (order (grown d) (location_of v))
      old q = member_stays d (location_of v) (f.sources_listed r w v q k)

      fresh : (r ≡ new_id d) × (v ≡ new_event d) → Member w (order (grown d) (location_of v))
      fresh n =
          member_stays d (location_of v)
          (subst⁻¹ (λ a. Member a (order g (location_of v)))
          (new_source d.action d.location _ d.picked (ap (λ e. source_of (some e)) (sym n.1) ∙ k))
          (subst⁻¹ (λ y. Member d.picked (order g y))
          (ap location_of n.1 ∙ new_location d.action d.location _ d.picked) (in_order d)))

  no_repeats_kept : (x : ℕ) (a : Id) → Precedes a a (order (grown d) x) → ⊥
  no_repeats_kept x a h =
      ⊎_elim (f.no_repeats x a)
      (⊎_elim (λ n. new (Memᴰ.append_right (up_to_picked d) n.1) n.0)
      (λ n. new (Memᴰ.append_left d.after n.2) n.0))
      (precedes_old_or_new d x h)
    where
      new : Member a (up_to_picked d ++ d.after) → a ≡ new_id d → ⊥
      new m = listed_not_next f d.thread d.location a (subst⁻¹ (Member a) (old_order d) m)

  headed_kept : (x : ℕ) → x < length (grown d).orders → (rest : List Id) × (order (grown d) x ≡ start x ∷ rest)
  headed_kept x h = go (order_after d x)
    where
      was : (rest : List Id) × (order g x ≡ start x ∷ rest)
      was = f.headed x (subst (λ n. x < n) (locations_stay d) h)

      go : OrderAfter d x → (rest : List Id) × (order (grown d) x ≡ start x ∷ rest)
      go (unchanged o) = (was.0, o ∙ was.1)
      go (put_in q w o n) =
          let r = same_head d.before d.picked d.after (new_id d ∷ d.after) (start x) was.0
          (sym o ∙ was.1) in
          (r.0, n ∙ r.1)

  pub well_formed_grows : WellFormed (grown d)
  well_formed_grows =
      record {
        listed_writes = listed_writes_kept;
        writes_listed = writes_listed_kept;
        sources_listed = sources_listed_kept;
        no_repeats = no_repeats_kept;
        headed = headed_kept;
      }
