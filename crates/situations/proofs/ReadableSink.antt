-- What is seen after an access, in happens-before: by others what they saw, and by the new event what its thread has
-- seen and what it read.
use mathlib.Core.Path.{◌≡◌, refl, sym, ap, ◌∙◌, subst}
use mathlib.Core.List.Memᴰ
use mathlib.Core.List.{List, [], ◌∷◌, ◌++◌, Memᴰ as Member}
use mathlib.Core.Option.{some, some-injective}
use mathlib.Core.Logic.{◌⊎◌, inl, inr, ⊎_elim, ◌↔◌}
use Prim.Native.Nat.{ℕ}
use native.Mathlib.Omega.{arith}
use Rattle.relations.specs.Closure.{IsOrBefore, Reaches}
use Rattle.relations.proofs.Sink.{sink_has_no_way_out, old_way, way_kept, before_sink, reach_sink}
use Rattle.program.specs.Thread.{Action, reads, writes, updates}
use Rattle.model.specs.Graph.{Id, start, Graph, thread_events, source_of, event_of}
use Rattle.model.specs.Order.{HappensEdge, thread_order, reads_from, HappensBefore}
use Rattle.model.proofs.Growth.{Addition, new_id, grown, new_there, new_is_own, own_old_or_new}
use Rattle.model.proofs.WellFormed.{WellFormed}
use Rattle.model.proofs.Sinks.{happens_sink}
use Rattle.model.proofs.NewEdges.{own_before_new, in_thread_before_new}
use Rattle.model.proofs.StartsFirst.{nothing_happens_before_start}
use Rattle.relations.proofs.Laws.{reaches_moves, reaches_more}
use Rattle.situations.proofs.StepGrowth.{Old, thread_events_old}

-- One of the events, or something that happens before one: it is seen after them.
abbrev pub Seen : Graph → List Id → Id → Type 0
Seen g es = Reaches (HappensBefore g) es

-- What an access that picks w synchronises with: w where it reads.
unfoldable pub sources : Action → Id → List Id
sources reads w = w ∷ []
sources (writes v) w = []
sources (updates v) w = w ∷ []

source_listed : (a : Action) (x u : ℕ) (w b : Id) → source_of (some (event_of a x u w)) ≡ some b → Member b (sources a w)
unfolding source_of event_of sources
source_listed reads x u w b h = Member.head (sym (some-injective w b h))
source_listed (writes v) x u w b h = absurd (let z : ◌≡◌ {A = ℕ} 0 1 = cc in omega arith)
source_listed (updates v) x u w b h = Member.head (sym (some-injective w b h))

listed_source : (a : Action) (x u : ℕ) (w b : Id) → Member b (sources a w) → source_of (some (event_of a x u w)) ≡ some b
unfolding source_of event_of sources
listed_source reads x u w b m = ap some (sym (Memᴰ.eq_of_singleton m))
listed_source (writes v) x u w b m = absurd (Memᴰ.not-nil m)
listed_source (updates v) x u w b m = ap some (sym (Memᴰ.eq_of_singleton m))

-- What the new event has seen, starting writes aside.
abbrev pub seen_by_new : {g : Graph} → Addition g → List Id
seen_by_new {g} d = thread_events g d.thread ++ sources d.action d.picked

-- The events es are the new one and events of its thread.
pub record New {g : Graph} (d : Addition g) (es : List Id) : Type 0 where
  pub has : Member (new_id d) es
  pub own : (b : Id) → Member b es → (b ≡ new_id d) ⊎ Member b (thread_events g d.thread)

module _ {g : Graph} (d : Addition g) where
  pub thread_new : New d (thread_events (grown d) d.thread)
  thread_new = record { has = new_is_own d; own = λ b. own_old_or_new d }

  pub alone_new : New d (new_id d ∷ [])
  alone_new = record { has = Member.head refl; own = λ b m. inl (Memᴰ.eq_of_singleton m) }

  into_new : (b : Id) → Member b (seen_by_new d) → HappensEdge (grown d) b (new_id d)
  into_new b m =
      ⊎_elim (λ h. thread_order (own_before_new d h))
      (λ h. reads_from (ap source_of (new_there d) ∙ listed_source d.action d.location _ d.picked b h))
      (Memᴰ.append_cases (thread_events g d.thread) m)

module _ {g : Graph} (f : WellFormed g) (d : Addition g) where
  -- Old events have seen what they had seen, and not the new one.
  pub seen_kept : (es : List Id) → Old d es → (v : Id) → Seen (grown d) es v ↔ Seen g es v
  seen_kept es old v = (
    reaches_moves (λ b m. (m, old_way (happens_sink f d) (old b m))),
    reaches_moves (λ b m. (m, way_kept (happens_sink f d))),
  )

  pub new_unseen : (es : List Id) → Old d es → Seen (grown d) es (new_id d) → ⊥
  new_unseen es old r =
      ⊎_elim (λ q. old r.target r.listed (sym q)) (λ w. sink_has_no_way_out (happens_sink f d) w) r.way

  module _ {v : Id} (not_start : (z : ℕ) → v ≡ start z → ⊥) where
    before_new : {b : Id} → HappensEdge (grown d) b (new_id d) → IsOrBefore (HappensBefore g) v b
        → Seen g (seen_by_new d) v
    before_new {b} (thread_order h) w =
        ⊎_elim
        (λ s. absurd (⊎_elim (not_start s.0) (nothing_happens_before_start s.0)
        (subst (IsOrBefore (HappensBefore g) v) s.2 w)))
        (λ m. record { target = b; listed = Memᴰ.append_left (sources d.action d.picked) m; way = w })
        (in_thread_before_new d h refl)
    before_new {b} (reads_from h) w =
        record {
          target = b;
          listed =
              Memᴰ.append_right (thread_events g d.thread)
              (source_listed d.action d.location _ d.picked b (ap source_of (sym (new_there d)) ∙ h));
          way = w;
        }

    module _ (not_new : v ≡ new_id d → ⊥) {es : List Id} (n : New d es) where
      seen_before : Seen (grown d) es v → Seen g (seen_by_new d) v
      seen_before r = ⊎_elim new old (n.own r.target r.listed)
        where
          new : r.target ≡ new_id d → Seen g (seen_by_new d) v
          new q =
              ⊎_elim (λ e. absurd (not_new (e ∙ q)))
              (λ w. let e = before_sink (happens_sink f d) (subst (HappensBefore (grown d) v) q w) in
              before_new e.1 e.2) r.way

          old : Member r.target (thread_events g d.thread) → Seen g (seen_by_new d) v
          old m =
              reaches_more (λ b. Memᴰ.append_left (sources d.action d.picked))
              ((seen_kept (thread_events g d.thread) (thread_events_old d d.thread) v).0
              (record { target = r.target; listed = m; way = r.way }))

      seen_after : Seen g (seen_by_new d) v → Seen (grown d) es v
      seen_after r =
          record {
            target = new_id d;
            listed = n.has;
            way = inr (reach_sink (happens_sink f d) (into_new d r.target r.listed) r.way);
          }

      pub seen_by_new_lem : Seen (grown d) es v ↔ Seen g (seen_by_new d) v
      seen_by_new_lem = (seen_before, seen_after)
