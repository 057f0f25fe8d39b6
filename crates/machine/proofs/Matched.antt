-- One access on both sides: the memory that mirrors a graph still does after it.
use mathlib.Core.Path.{◌≡◌, refl, sym, ap, ◌∙◌, subst, subst⁻¹}
use mathlib.Core.Bool.{true}
use mathlib.Core.List.Memᴰ
use mathlib.Core.List.{Memᴰ as Member}
use mathlib.Core.Option.{some}
use mathlib.Core.Logic.{◌⊎◌, ⊎_elim, ◌≢◌}
use Prim.Native.Nat.{ℕ, suc, ◌≤◌, ◌<◌}
use native.Mathlib.Omega.{arith}
use native.Mathlib.Decide.{ℕ_discrete}
use lib.ListN.{length}
use Rattle.relations.specs.Closure.{Precedes}
use Rattle.relations.proofs.Precedes.{precedes_members}
use Rattle.program.specs.Thread.{Action, reads, writes, updates, writing}
use Rattle.model.specs.Graph.{Id, start, update_e, Graph, order, event_at, thread_events, source_of}
use Rattle.model.specs.Graph.{value_written, event_of}
use Rattle.model.specs.Order.{HappensEdge, thread_order, reads_from, starting, within}
use Rattle.model.proofs.Lookup.{own_event, own_not_next, present_not_next, reading_event}
use Rattle.model.proofs.Growth.{Addition, in_order, new_id, new_event, grown, up_to_picked}
use Rattle.model.proofs.Growth.{own_old_or_new, others_ids_stay, member_stays, member_old_or_new, precedes_old_or_new}
use Rattle.model.proofs.Growth.{old_order, new_listed, new_there, there_old_or_new, happens_edge_grows}
use Rattle.model.proofs.WellFormed.{WellFormed, listed_not_next, listed_event_stays, new_source, new_unlisted}
use Rattle.model.proofs.NewEdges.{in_thread_before_new}
use Rattle.model.proofs.Sinks.{happens_sink}
use Rattle.machine.specs.Memory.{View, Message, MemoryState, changed}
use Rattle.machine.proofs.Fits.{Fits}
use Rattle.machine.proofs.Atomic.{new_update}
use Rattle.machine.proofs.Views.{changed_same, changed_other, takes, NewView}
use Rattle.machine.proofs.Mirrors.{InMemory, WriteOf, Mirrors, sent_after, sent_new, sent_old}

-- What an access adds to the graph and what it does to the memory belong together. The message n is the new one; of a
-- read it has the view alone.
pub record Matched (m m' : MemoryState) {g : Graph} (sent : Id → Message) (d : Addition g) (n : Message) : Type 0 where
  -- its time is between those of the writes before and after it; an update's is directly after the picked one's
  pub later : writing d.action ≡ true → (a : Id) → Member a (up_to_picked d) → (sent a).time < n.time
  pub earlier : writing d.action ≡ true → (a : Id) → Member a d.after → n.time < (sent a).time
  pub next : (v : ℕ) → d.action ≡ updates v → n.time ≡ suc (sent d.picked).time
  pub location : n.location ≡ d.location
  pub value : writing d.action ≡ true → n.value ≡ value_written (some (new_event d))
  pub view : NewView d.action d.location (m.views d.thread) (sent d.picked).view n.view n.time
  -- it is the one message that is added, by a write, and the thread has its view
  pub views : m'.views ≡ changed m.views d.thread n.view
  pub stays : (k : Message) → Member k m.messages → Member k m'.messages
  pub added : writing d.action ≡ true → Member n m'.messages
  pub only : (k : Message) → Member k m'.messages → Member k m.messages ⊎ ((writing d.action ≡ true) × (k ≡ n))

-- An event that reads has taken a message, and one that takes a message reads it.
source_is_taken : (a : Action) (x u : ℕ) (w : Id) {w' : Id} → source_of (some (event_of a x u w)) ≡ some w'
    → takes a ≡ true
unfolding source_of event_of takes
source_is_taken reads x u w h = refl
source_is_taken (writes v) x u w h = absurd (let z : ◌≡◌ {A = ℕ} 0 1 = cc in omega arith)
source_is_taken (updates v) x u w h = refl

pub taken_is_source : (a : Action) (x u : ℕ) (w : Id) → takes a ≡ true → source_of (some (event_of a x u w)) ≡ some w
unfolding source_of event_of takes
taken_is_source reads x u w h = refl
taken_is_source (writes v) x u w h = absurd (let z : ◌≡◌ {A = ℕ} 0 1 = cc in omega arith)
taken_is_source (updates v) x u w h = refl

pub same_time : {b c : Message} → b ≡ c → b.time ≡ c.time
same_time = ap (λ (b : Message). b.time)

pub same_view : {b c : Message} → b ≡ c → (y : ℕ) → b.view y ≡ c.view y
same_view q y = ap (λ (b : Message). b.view y) q

module _ {m m' : MemoryState} {g : Graph} {sent : Id → Message} (w : WellFormed g) (f : Mirrors m g sent)
    {d : Addition g} {n : Message} (k : Matched m m' sent d n) where
  abbrev pub sent' : Id → Message
  sent' = sent_after sent (new_id d) n

  pub is_new : {a : Id} → a ≡ new_id d → sent' a ≡ n
  is_new = sent_new sent (new_id d) n

  is_old : {a : Id} → a ≢ new_id d → sent' a ≡ sent a
  is_old = sent_old sent (new_id d) n

  pub listed_is_old : (x : ℕ) {a : Id} → Member a (order g x) → sent' a ≡ sent a
  listed_is_old x {a} l = is_old (listed_not_next w d.thread x a l)

  picked_is_old : sent' d.picked ≡ sent d.picked
  picked_is_old = listed_is_old d.location (in_order d)

  -- Messages and writes.
  pub written_after : (c : Message) → Member c m'.messages → WriteOf (grown d) sent' c
  written_after c there = ⊎_elim old new (k.only c there)
    where
      old : Member c m.messages → WriteOf (grown d) sent' c
      old h =
          let r = f.written c h in
          record {
            id = r.id;
            listed = member_stays d c.location r.listed;
            is = r.is ∙ sym (listed_is_old c.location r.listed);
          }

      new : (writing d.action ≡ true) × (c ≡ n) → WriteOf (grown d) sent' c
      new h =
          record {
            id = new_id d;
            listed =
                subst⁻¹ (λ y. Member (new_id d) (order (grown d) y))
                (ap (λ (b : Message). b.location) h.1 ∙ k.location)
                (new_listed d h.0);
            is = h.1 ∙ sym (is_new refl);
          }

  pub kept_after : (x : ℕ) (a : Id) → Member a (order (grown d) x) → InMemory m' (grown d) x a (sent' a)
  kept_after x a there = ⊎_elim new old (member_old_or_new d x there)
    where
      old : Member a (order g x) → InMemory m' (grown d) x a (sent' a)
      old h =
          let r = f.kept x a h in
          subst⁻¹ (InMemory m' (grown d) x a) (listed_is_old x h)
          (record {
            there = k.stays (sent a) r.there;
            location = r.location;
            value = r.value ∙ ap value_written (sym (listed_event_stays w d x a h));
          })

      new : (a ≡ new_id d) × (x ≡ d.location) × (writing d.action ≡ true) → InMemory m' (grown d) x a (sent' a)
      new h =
          subst⁻¹ (InMemory m' (grown d) x a) (is_new h.0)
          (record {
            there = k.added h.2;
            location = k.location ∙ sym h.1;
            value = k.value h.2 ∙ ap value_written (sym (ap (event_at (grown d)) h.0 ∙ new_there d));
          })

  -- Times.
  writes_new : (x : ℕ) → Member (new_id d) (order (grown d) x) → writing d.action ≡ true
  writes_new x l = ⊎_elim (λ r. r.2) (λ r. absurd (new_unlisted w d x r)) (member_old_or_new d x l)

  rising_after : (x : ℕ) {a b : Id} → Precedes a b (order (grown d) x) → (sent' a).time < (sent' b).time
  rising_after x {a} {b} h = ⊎_elim old (⊎_elim first second) (precedes_old_or_new d x h)
    where
      there : Member a (order (grown d) x) × Member b (order (grown d) x)
      there = precedes_members (order (grown d) x) h

      old : Precedes a b (order g x) → (sent' a).time < (sent' b).time
      old r =
          let both = precedes_members (order g x) r in
          let old_a = same_time (listed_is_old x both.0) in
          let old_b = same_time (listed_is_old x both.1) in
          omega (arith, f.fits.rising x r, old_a, old_b)

      first : (a ≡ new_id d) × Member b d.after → (sent' a).time < (sent' b).time
      first r =
          let written = writes_new x (subst (λ c. Member c (order (grown d) x)) r.0 there.0) in
          let listed : Member b (order g d.location) =
          subst⁻¹ (Member b) (old_order d) (Memᴰ.append_right (up_to_picked d) r.1) in
          let old_b = same_time (listed_is_old d.location listed) in
          omega (arith, k.earlier written b r.1, same_time (is_new r.0), old_b)

      second : (b ≡ new_id d) × (x ≡ d.location) × Member a (up_to_picked d) → (sent' a).time < (sent' b).time
      second r =
          let written = writes_new x (subst (λ c. Member c (order (grown d) x)) r.0 there.1) in
          let listed : Member a (order g d.location) =
          subst⁻¹ (Member a) (old_order d) (Memᴰ.append_left d.after r.2) in
          let old_a = same_time (listed_is_old d.location listed) in
          omega (arith, k.later written a r.2, same_time (is_new r.0), old_a)

  updated_after : (a : Id) {x u v : ℕ} {b : Id} → event_at (grown d) a ≡ some (update_e x u v b)
      → (sent' a).time ≡ suc (sent' b).time
  unfolding source_of
  updated_after a {x} {u} {v} {b} h = ⊎_elim new old (there_old_or_new d a h)
    where
      new : (a ≡ new_id d) × (update_e x u v b ≡ new_event d) → (sent' a).time ≡ suc (sent' b).time
      new r =
          let e = new_update d.action d.location _ d.picked r.1 in
          same_time (is_new r.0) ∙ k.next v e.0
          ∙ ap suc (sym (ap (λ c. (sent' c).time) e.2 ∙ same_time picked_is_old))

      old : event_at g a ≡ some (update_e x u v b) → (sent' a).time ≡ suc (sent' b).time
      old r =
          same_time (is_old (present_not_next g d.thread a r)) ∙ f.fits.updated a r
          ∙ ap suc (sym (same_time (listed_is_old _ (w.sources_listed a b _ r refl))))

  pub start_is_old : (x : ℕ) → sent' (start x) ≡ sent (start x)
  start_is_old x = is_old (λ q. let z : ◌≡◌ {A = ℕ} 0 1 = cc in omega arith)

  pub fits_after : Fits (grown d) (λ a. (sent' a).time)
  fits_after =
      record {
        rising = rising_after;
        updated = updated_after;
        started = λ x. same_time (start_is_old x) ∙ f.fits.started x;
      }

  -- What views have.
  pub own_time_after : (x : ℕ) (a : Id) → Member a (order (grown d) x) → (sent' a).time ≤ (sent' a).view x
  own_time_after x a there = ⊎_elim new old (member_old_or_new d x there)
    where
      old : Member a (order g x) → (sent' a).time ≤ (sent' a).view x
      old h = subst⁻¹ (λ (c : Message). c.time ≤ c.view x) (listed_is_old x h) (f.own_time x a h)

      new : (a ≡ new_id d) × (x ≡ d.location) × (writing d.action ≡ true) → (sent' a).time ≤ (sent' a).view x
      new h =
          subst⁻¹ (λ (c : Message). c.time ≤ c.view x) (is_new h.0)
          (subst⁻¹ (λ y. n.time ≤ n.view y) h.1 (k.view.raises h.2))

  edge_from_old : {a b : Id} → HappensEdge g a b → a ≢ new_id d
  edge_from_old {a} {b} h q =
      (happens_sink w d).no_way_out b (subst (λ c. HappensEdge (grown d) c b) q (happens_edge_grows d a b h))

  edge_to_old : {a b : Id} → HappensEdge g a b → b ≢ new_id d
  edge_to_old (thread_order (starting {t = t} {i = i} l h)) q = own_not_next g d.thread t _ (own_event g t i h) q
  edge_to_old (thread_order (within {t = t} {j = j} l h)) q = own_not_next g d.thread t _ (own_event g t j h) q
  edge_to_old {b = b} (reads_from h) q = present_not_next g d.thread b (reading_event g b h).1 q

  -- What comes before the new event in one edge.
  into_new : (a b : Id) → HappensEdge (grown d) a b → b ≡ new_id d → (y : ℕ) → (sent' a).view y ≤ n.view y
  into_new a b (thread_order h) q y = ⊎_elim from_start from_own (in_thread_before_new d h q)
    where
      from_start : (x : ℕ) × (x < length g.orders) × (a ≡ start x) → (sent' a).view y ≤ n.view y
      from_start r =
          omega (arith, ap (λ c. (sent' c).view y) r.2, same_view (start_is_old r.0) y, f.start_view_zero r.0 y)

      from_own : Member a (thread_events g d.thread) → (sent' a).view y ≤ n.view y
      from_own r =
          let old = same_view (is_old (own_not_next g d.thread d.thread a r)) y in
          omega (arith, old, f.own_events d.thread a r y, k.view.grows y)
  into_new a b (reads_from h) q y =
      let e = sym (ap source_of (ap (event_at (grown d)) q ∙ new_there d)) ∙ h in
      let joined = k.view.joins (source_is_taken d.action d.location _ d.picked e) y in
      let picked = new_source d.action d.location _ d.picked e in
      omega (arith, joined, ap (λ c. (sent' c).view y) picked, same_view picked_is_old y)

  pub along_edges_after : (a b : Id) → HappensEdge (grown d) a b → (y : ℕ) → (sent' a).view y ≤ (sent' b).view y
  along_edges_after a b h y = ⊎_elim new old ((happens_sink w d).new_end_there a b h)
    where
      new : b ≡ new_id d → (sent' a).view y ≤ (sent' b).view y
      new q = omega (arith, into_new a b h q y, same_view (is_new q) y)

      old : HappensEdge g a b → (sent' a).view y ≤ (sent' b).view y
      old e =
          omega
          (arith, f.along_edges a b e y, same_view (is_old (edge_from_old e)) y, same_view (is_old (edge_to_old e)) y)

  -- The views of the threads.
  pub own_view : m'.views d.thread ≡ n.view
  own_view = ap (λ (v : ℕ → View). v d.thread) k.views ∙ changed_same m.views d.thread n.view

  pub other_view : (u : ℕ) → u ≢ d.thread → m'.views u ≡ m.views u
  other_view u q = ap (λ (v : ℕ → View). v u) k.views ∙ changed_other m.views d.thread n.view u q

  pub own_events_after : (t : ℕ) (a : Id) → Member a (thread_events (grown d) t) → (y : ℕ)
      → (sent' a).view y ≤ m'.views t y
  own_events_after t a there y = go (ℕ_discrete t d.thread)
    where
      own : Member a (thread_events (grown d) d.thread) → (sent' a).view y ≤ n.view y
      own h =
          ⊎_elim (λ q. omega (arith, same_view (is_new q) y))
          (λ o. omega (
            arith,
            same_view (is_old (own_not_next g d.thread d.thread a o)) y,
            f.own_events d.thread a o y,
            k.view.grows y,
          ))
          (own_old_or_new d h)

      go : Dec (t ≡ d.thread) → (sent' a).view y ≤ m'.views t y
      go (yes q) =
          subst⁻¹ (λ (T : View). (sent' a).view y ≤ T y) (ap m'.views q ∙ own_view)
          (own (subst (λ u. Member a (thread_events (grown d) u)) q there))
      go (no q) =
          let old = subst (Member a) (others_ids_stay d t q) there in
          subst⁻¹ (λ (T : View). (sent' a).view y ≤ T y) (other_view t q)
          (omega (arith, same_view (is_old (own_not_next g d.thread t a old)) y, f.own_events t a old y))
