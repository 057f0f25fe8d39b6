-- At the start the memory mirrors the graph of the starting writes.
use mathlib.Core.Path.{◌≡◌, refl, sym, ap, subst, subst⁻¹}
use mathlib.Core.List.Memᴰ
use mathlib.Core.List.{Memᴰ as Member}
use mathlib.Core.Logic.{⊎_elim}
use Prim.Native.Nat.{ℕ, ◌<◌}
use native.Mathlib.Omega.{arith}
use Rattle.relations.specs.Closure.{Precedes}
use Rattle.relations.proofs.Precedes.{precedes_not_nil, precedes_not_single}
use Rattle.program.specs.Program.{Program}
use Rattle.model.specs.Graph.{Id, start, event, order, start_graph, value_written}
use Rattle.model.proofs.Lookup.{start_there}
use Rattle.model.proofs.Start.{start_locations, start-order, start_orders, start_event_is}
use Rattle.machine.specs.Memory.{start_view, Message, message, start_messages, start_memory}
use Rattle.machine.proofs.StartMessages.{start_message_is, start_message_there}
use Rattle.machine.proofs.Mirrors.{nothing, InMemory, WriteOf, Mirrors}

-- The messages of the starting writes; no other event is there.
unfoldable pub sent_at_start : Id → Message
sent_at_start (start x) = message x 0 0 start_view
sent_at_start (event t i) = message 0 0 0 start_view

no_time : (a : Id) → (sent_at_start a).time ≡ 0
unfolding sent_at_start
no_time (start x) = refl
no_time (event t i) = refl

no_view : (a : Id) (y : ℕ) → (sent_at_start a).view y ≡ 0
unfolding sent_at_start
no_view (start x) y = refl
no_view (event t i) y = refl

module _ (p : Program) where
  pub listed_is_start : (x : ℕ) {a : Id} → Member a (order (start_graph p) x) → (x < p.locations) × (a ≡ start x)
  listed_is_start x {a} h =
      ⊎_elim (λ o. (o.0, Memᴰ.eq_of_singleton (subst (Member a) o.1 h)))
      (λ o. absurd (Memᴰ.not-nil (subst (Member a) o h))) (start_orders p x)

  none_precedes : (x : ℕ) {a b : Id} → Precedes a b (order (start_graph p) x) → ⊥
  none_precedes x {a} {b} h =
      ⊎_elim (λ o. precedes_not_single (subst (Precedes a b) o.1 h))
      (λ o. precedes_not_nil (subst (Precedes a b) o h)) (start_orders p x)

  pub start_mirrors : Mirrors (start_memory p.locations) (start_graph p) sent_at_start
  unfolding start_memory sent_at_start value_written
  start_mirrors =
      record {
        written = written;
        kept = kept;
        fits =
            record {
              rising = λ x h. absurd (none_precedes x h);
              updated =
                  λ a h. let r = start_event_is p a h in
                  absurd (let z : ◌≡◌ {A = ℕ} 0 1 = cc r.2 in omega arith);
              started = λ x. refl;
            };
        own_time = λ x a h. omega (arith, no_time a);
        start_view_zero = λ x y. refl;
        along_edges = λ a b h y. omega (arith, no_view a y);
        own_events = λ t a h y. omega (arith, no_view a y);
        thread_shows = λ t y. nothing refl;
        message_shows = λ x a h y. nothing (no_view a y);
      }
    where
      written : (n : Message) → Member n (start_messages p.locations) → WriteOf (start_graph p) sent_at_start n
      written n h =
          let r = start_message_is p.locations h in
          record {
            id = start r.0;
            listed =
                subst⁻¹ (λ (c : Message). Member (start r.0) (order (start_graph p) c.location)) r.2
                (subst⁻¹ (Member (start r.0)) (start-order p r.0 r.1) (Member.head refl));
            is = r.2;
          }

      kept : (x : ℕ) (a : Id) → Member a (order (start_graph p) x)
          → InMemory (start_memory p.locations) (start_graph p) x a (sent_at_start a)
      kept x a h =
          let r = listed_is_start x h in
          subst⁻¹ (λ b. InMemory (start_memory p.locations) (start_graph p) x b (sent_at_start b)) r.1
          (record {
            there = start_message_there p.locations x r.0;
            location = refl;
            value =
                ap value_written
                (sym (start_there (start_graph p) x (subst⁻¹ (λ n. x < n) (start_locations p) r.0)));
          })
