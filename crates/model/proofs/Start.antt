-- The graph of the starting writes alone.
use mathlib.Core.Path.{◌≡◌, refl, sym, ap, ◌∙◌, subst, subst⁻¹}
use mathlib.Core.List.Memᴰ
use mathlib.Core.List.{List, [], ◌∷◌, Memᴰ as Member}
use mathlib.Core.Option.{some}
use mathlib.Core.Logic.{◌⊎◌, inl, inr, ⊎_elim}
use Prim.Native.Nat.{ℕ, ◌<◌, ◌≤◌}
use native.Mathlib.Omega.{arith}
use native.Mathlib.Decide.{dec_lt}
use lib.ListN.{length, length-map, get_or-eq_default, get_or-map}
use Rattle.relations.specs.Closure.{Precedes}
use Rattle.relations.proofs.Precedes.{precedes_not_nil, precedes_not_single}
use Rattle.lists.proofs.Places.{place_in_range}
use Rattle.program.specs.Program.{Program, Line}
use Rattle.relations.proofs.Laws.{first_edge}
use Rattle.model.specs.Graph.{Id, start, event, Event, write_e, events_of, order, event_at, source_of, start_graph}
use Rattle.model.specs.Order.{ThreadOrder, starting, within, ModificationOrder, at, HappensEdge, thread_order}
use Rattle.model.specs.Order.{reads_from, ScEdge, happens_before, modification_order, from_read, ScOrder}
use Rattle.model.proofs.Lookup.{start_there, start_is, reading_event}
use Rattle.model.proofs.WellFormed.{writes_to, WriteTo, WellFormed}
use Rattle.model.proofs.Below.{length_of_row, row_of_below}

module _ (p : Program) where
  pub start_locations : length (start_graph p).orders ≡ p.locations
  unfolding start_graph
  start_locations = length_of_row (λ x. start x ∷ []) p.locations

  pub start_threads : length (start_graph p).events ≡ length p.threads
  unfolding start_graph
  start_threads = length-map p.threads (λ (ls : List Line). [])

  pub start-order : (x : ℕ) → x < p.locations → order (start_graph p) x ≡ start x ∷ []
  unfolding start_graph
  start-order x h = row_of_below (λ y. start y ∷ []) [] p.locations x h

  pub no_order : (x : ℕ) → p.locations ≤ x → order (start_graph p) x ≡ []
  no_order x h = get_or-eq_default (start_graph p).orders [] (omega (arith, start_locations))

  -- Each location has its starting write alone, and where there is no location there is nothing.
  pub start_orders : (x : ℕ)
      → ((x < p.locations) × (order (start_graph p) x ≡ start x ∷ [])) ⊎ (order (start_graph p) x ≡ [])
  start_orders x = go (dec_lt x p.locations)
    where
      go : Dec (x < p.locations)
          → ((x < p.locations) × (order (start_graph p) x ≡ start x ∷ [])) ⊎ (order (start_graph p) x ≡ [])
      go (yes h) = inl (h, start-order x h)
      go (no h) = inr (no_order x (omega arith))

  pub start_events : (t : ℕ) → events_of (start_graph p) t ≡ []
  unfolding start_graph
  start_events t = get_or-map (λ (ls : List Line). []) p.threads t []

  -- Every event is a starting write.
  pub start_event_is : (a : Id) {v : Event} → event_at (start_graph p) a ≡ some v
      → (y : ℕ) × (a ≡ start y) × (v ≡ write_e y 0) × (y < p.locations)
  unfolding event_at
  start_event_is (start y) h =
      let r = start_is (start_graph p) y h in
      (y, refl, r.0, subst (λ n. y < n) start_locations r.1)
  start_event_is (event t i) h =
      let r = place_in_range (events_of (start_graph p) t) i h in
      absurd (omega (arith, r, ap length (start_events t)))

  pub start_well_formed : WellFormed (start_graph p)
  unfolding source_of writes_to
  start_well_formed =
      record {
        listed_writes =
            λ x a m. ⊎_elim (λ o. listed x a o.0 (subst (Member a) o.1 m))
            (λ o. absurd (Memᴰ.not-nil (subst (Member a) o m))) (start_orders x);
        writes_listed = λ x a w. let r = start_event_is a w.there in writes x a w r.0 r.1 r.2 r.3;
        sources_listed =
            λ r w v h k. let s = start_event_is r h in absurd (let z : ◌≡◌ {A = ℕ} 0 1 = cc s.2 in omega arith);
        no_repeats =
            λ x a h. ⊎_elim (λ o. precedes_not_single (subst (Precedes a a) o.1 h))
            (λ o. precedes_not_nil (subst (Precedes a a) o h)) (start_orders x);
        headed = λ x h. ([], start-order x (subst (λ n. x < n) start_locations h));
      }
    where
      listed : (x : ℕ) (a : Id) → x < p.locations → Member a (start x ∷ []) → WriteTo (start_graph p) x a
      listed x a h m =
          record {
            write = write_e x 0;
            there =
                ap (event_at (start_graph p)) (Memᴰ.eq_of_singleton m) ∙ start_there (start_graph p) x
                (subst⁻¹ (λ n. x < n) start_locations h);
            to = refl;
          }

      writes : (x : ℕ) (a : Id) (w : WriteTo (start_graph p) x a) (y : ℕ) → a ≡ start y → w.write ≡ write_e y 0
          → y < p.locations
          → Member a (order (start_graph p) x)
      writes x a w y q e h =
          let z : y ≡ x = cc (w.to, e) in
          subst⁻¹ (Member a) (start-order x (subst (λ n. n < p.locations) z h)) (Member.head (q ∙ ap start z))

  -- Nothing comes before anything.
  no_thread_order : {a b : Id} → ThreadOrder (start_graph p) a b → ⊥
  no_thread_order (starting {t = t} l h) = omega (arith, ap length (start_events t))
  no_thread_order (within {t = t} l h) = omega (arith, ap length (start_events t))

  no_happens : (a b : Id) → HappensEdge (start_graph p) a b → ⊥
  unfolding source_of
  no_happens a b (thread_order h) = no_thread_order h
  no_happens a b (reads_from h) =
      let e = reading_event (start_graph p) b h in
      let q = sym (ap (λ v. source_of (some v)) (start_event_is b e.1).2) ∙ e.2 in
      let z : ◌≡◌ {A = ℕ} 0 1 = cc q in
      omega arith

  no_modification_order : {a b : Id} → ModificationOrder (start_graph p) a b → ⊥
  no_modification_order {a} {b} (at x h) =
      ⊎_elim
      (λ o. precedes_not_single (subst (Precedes a b) o.1 h))
      (λ o. precedes_not_nil (subst (Precedes a b) o h)) (start_orders x)

  no_sc_edge : (a b : Id) → ScEdge (start_graph p) a b → ⊥
  no_sc_edge a b (happens_before h) = let e = first_edge h in no_happens a e.0 e.1
  no_sc_edge a b (modification_order h) = no_modification_order h
  no_sc_edge a b (from_read r) = no_modification_order r.later

  pub start_acyclic : (a b : Id) → ScOrder (start_graph p) a b → ⊥
  start_acyclic a b h = let e = first_edge h in no_sc_edge a e.0 e.1
