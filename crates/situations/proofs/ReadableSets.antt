-- The sets of values that could still be read, before and after an SC step, one set at a time.
use mathlib.Core.Path.{◌≡◌, refl, sym, ◌∙◌, subst}
use mathlib.Core.Bool.{Bool, true, false, true≢false}
use mathlib.Core.List.{List, [], ◌++◌, Memᴰ as Member}
use mathlib.Core.Logic.{◌⊎◌, inl, inr, ⊎_elim, ◌↔◌}
use Prim.Native.Nat.{ℕ, ◌<◌}
use Rattle.relations.specs.Closure.{Precedes}
use Rattle.relations.proofs.Precedes.{precedes_members}
use Rattle.sets.specs.Sets.{empty, meet}
use Rattle.program.specs.Thread.{writing}
use Rattle.rules.specs.Update.{stalen}
use Rattle.model.specs.Graph.{Id, Graph, order, value_of}
use Rattle.model.specs.Readable.{Readable}
use Rattle.model.proofs.Choices.{dec_readable}
use Rattle.model.proofs.Growth.{Addition, new_id, grown}
use Rattle.model.proofs.WellFormed.{WellFormed, listed_not_next, listed_event_stays}
use Rattle.model.proofs.StartsFirst.{nothing_precedes_start}
use Rattle.situations.specs.Situation.{readable}
use Rattle.situations.proofs.ReadableSink.{Seen, New, seen_by_new, seen_kept, seen_by_new_lem}
use Rattle.situations.proofs.ReadableSplits.{readable_moves, readable_by_both}
use Rattle.situations.proofs.ReadableOverwritten.{keeps, none_older, readable_overwritten}
use Rattle.situations.proofs.Decisions.{same_set, met_set, wider_set, no_set}
use Rattle.situations.proofs.StepGrowth.{Old}

pub readable_met : (K : ℕ) (g : Graph) (leave : Bool) (es es' : List Id) (y : ℕ)
    → readable K g leave (es ++ es') y ≡ meet (readable K g leave es y) (readable K g leave es' y)
unfolding readable
readable_met K g leave es es' y =
    met_set K (dec_readable g es leave y) (dec_readable g es' leave y) (dec_readable g (es ++ es') leave y)
    (readable_by_both g es es' leave y)

module _ {g : Graph} (f : WellFormed g) (d : Addition g) (K : ℕ) (leave : Bool) (y : ℕ) where
  -- Where the location's order is as it was.
  module _ (same : order (grown d) y ≡ order g y) where
    moved : (es es' : List Id) → ((a v : Id) → Precedes a v (order g y) → Seen (grown d) es v ↔ Seen g es' v)
        → readable K (grown d) leave es y ≡ readable K g leave es' y
    unfolding readable
    moved es es' sees =
        same_set K (dec_readable (grown d) es leave y) (dec_readable g es' leave y)
        (λ u. (
          readable_moves es es' leave y u same (λ v m. listed_event_stays f d y v (old v m))
              (λ a v h. (sees a v (before a v h)).1),
          readable_moves es' es leave y u (sym same) (λ v m. sym (listed_event_stays f d y v m))
              (λ a v h. (sees a v h).0),
        ))
      where
        old : (v : Id) → Member v (order (grown d) y) → Member v (order g y)
        old v m = subst (Member v) same m

        before : (a v : Id) → Precedes a v (order (grown d) y) → Precedes a v (order g y)
        before a v h = subst (Precedes a v) same h

    pub readable_kept : (es : List Id) → Old d es → readable K (grown d) leave es y ≡ readable K g leave es y
    readable_kept es old = moved es es (λ a v h. seen_kept f d es old v)

    pub readable_by_new : (es : List Id) → New d es
        → readable K (grown d) leave es y ≡ readable K g leave (seen_by_new d) y
    readable_by_new es n =
        moved es (seen_by_new d)
        (λ a v h. seen_by_new_lem f d
        (λ z q. nothing_precedes_start f y z (subst (λ b. Precedes a b (order g y)) q h))
        (listed_not_next f d.thread y v (precedes_members (order g y) h).1) n)

-- Where it is overwritten.
module _ {g : Graph} (f : WellFormed g) (d : Addition g) (newest : d.after ≡ []) (w : writing d.action ≡ true)
    (K : ℕ) (leave : Bool) where
  pub own_empty : (es : List Id) → Member (new_id d) es → readable K (grown d) leave es d.location ≡ empty
  unfolding readable
  own_empty es m =
      no_set K (dec_readable (grown d) es leave d.location) (λ u. none_older f d newest w es leave u m)

  pub readable_stale : (es : List Id) → Old d es → value_of g d.picked < K
      → readable K (grown d) leave es d.location
      ≡ stalen (keeps leave d.action) (value_of g d.picked) (readable K g leave es d.location)
  unfolding readable stalen
  readable_stale es old l = go (keeps leave d.action) refl
    where
      stale : (u : ℕ)
          → Readable (grown d) es leave d.location u
          ↔ (Readable g es leave d.location u ⊎ ((keeps leave d.action ≡ true) × (value_of g d.picked ≡ u)))
      stale = readable_overwritten f d newest w es old leave

      go : (b : Bool) → keeps leave d.action ≡ b
          → readable K (grown d) leave es d.location
          ≡ stalen b (value_of g d.picked) (readable K g leave es d.location)
      go true q =
          wider_set K (dec_readable (grown d) es leave d.location) (dec_readable g es leave d.location) l
          (λ u. (
            λ r. ⊎_elim inr (λ h. inl h.1) ((stale u).0 r),
            λ r. (stale u).1 (⊎_elim (λ h. inr (q, h)) inl r),
          ))
      go false q =
          same_set K (dec_readable (grown d) es leave d.location) (dec_readable g es leave d.location)
          (λ u. (
            λ r. ⊎_elim (λ h. h) (λ h. absurd (true≢false (sym h.0 ∙ q))) ((stale u).0 r),
            λ r. (stale u).1 (inl r),
          ))
