-- The locations known to a list of events after an SC step.
use mathlib.Core.Path.{◌≡◌, refl, sym, ap, ◌∙◌, subst, subst⁻¹}
use mathlib.Core.Bool.{Bool, true, false, not, ◌||◌, ◌&&◌, decide, decide_iff}
use mathlib.Core.List.Memᴰ
use mathlib.Core.List.{List, [], ◌∷◌, ◌++◌, Memᴰ as Member}
use mathlib.Core.Logic.{◌⊎◌, inl, inr, ⊎_elim, ◌≢◌}
use Prim.Native.Nat.{ℕ, ◌<◌}
use native.Mathlib.Decide.{ℕ_discrete}
use borrow.Author.Tests.{eq-eqb, ne_eqb}
use lib.Dec.{eqb}
use lib.ListN.{length}
use Rattle.relations.specs.Closure.{Reaches}
use Rattle.relations.proofs.Sink.{old_way, sink_has_no_way_out}
use Rattle.sets.specs.Sets.{insert, remove, join, set_of}
use Rattle.sets.proofs.SetOf.{set_of_same, insert-set_of, remove-set_of, join-set_of}
use Rattle.program.specs.Thread.{writing}
use Rattle.model.specs.Graph.{Id, Graph}
use Rattle.model.specs.Order.{ScOrder}
use Rattle.model.specs.Readable.{newest, accesses}
use Rattle.model.proofs.Decidable.{dec_sc_reaches}
use Rattle.model.proofs.Growth.{Addition, has_location, new_id, grown, sc_order_grows}
use Rattle.model.proofs.WellFormed.{WellFormed}
use Rattle.model.proofs.Sinks.{sc_sink}
use Rattle.relations.proofs.Laws.{reaches_moves, reaches_more, reaches_append_cases}
use Rattle.situations.specs.Situation.{known}
use Rattle.situations.proofs.KnownSink.{Touches, before_new_event, reaches_new_event, write_touches}
use Rattle.situations.proofs.KnownSink.{read_touches}
use Rattle.situations.proofs.Decisions.{decide_no, decide_same, decide_or}
use Rattle.situations.proofs.StepGrowth.{own_events, Stays, Joins}
use Rattle.situations.proofs.Newest.{newest_elsewhere, newest_kept, newest_not_new, picked_is_newest}
use Rattle.situations.proofs.Newest.{new_is_newest}

-- It is decided that a is, or comes in SC order before, one of the events.
abbrev pub knows : Graph → List Id → Id → Bool
knows g es a = decide (dec_sc_reaches g es a)

-- The same of the newest write of y.
abbrev knows_of : Graph → List Id → ℕ → Bool
knows_of g es y = knows g es (newest g y)

module _ (g : Graph) where
  pub known_to_both : (es fs : List Id) (a : Id) → knows g (es ++ fs) a ≡ (knows g es a || knows g fs a)
  known_to_both es fs a =
      decide_or (dec_sc_reaches g es a) (dec_sc_reaches g fs a) (dec_sc_reaches g (es ++ fs) a) (
        reaches_append_cases es fs,
        ⊎_elim (reaches_more (λ b. Memᴰ.append_left fs)) (reaches_more (λ b. Memᴰ.append_right es)),
      )

  -- What is known to some of the events is known to all.
  known_to_more : (es fs : List Id) (a : Id) → ((b : Id) → Member b es → Member b fs)
      → (knows g es a || knows g fs a) ≡ knows g fs a
  known_to_more es fs a h =
      sym (decide_or (dec_sc_reaches g es a) (dec_sc_reaches g fs a) (dec_sc_reaches g fs a)
      (inr, ⊎_elim (reaches_more h) (λ r. r)))

module _ {g : Graph} (f : WellFormed g) (d : Addition g) (last : d.after ≡ []) where
  stays_known : {es es' : List Id} → Stays d es es' → (a : Id) → knows (grown d) es' a ≡ knows g es a
  stays_known {es} {es'} stays a =
      decide_same (dec_sc_reaches (grown d) es' a) (dec_sc_reaches g es a) (
        reaches_moves (λ b m. let k = stays.back b m in (k, old_way (sc_sink f d last) (stays.old b k))),
        reaches_moves (λ b m. (stays.kept b m, sc_order_grows d)),
      )

  stays_without_new : {es es' : List Id} → Stays d es es' → knows (grown d) es' (new_id d) ≡ false
  stays_without_new {es} {es'} stays =
      stays_known stays (new_id d)
      ∙ decide_no (dec_sc_reaches g es (new_id d))
      (λ r. ⊎_elim (λ q. stays.old r.target r.listed (sym q))
      (λ w. sink_has_no_way_out (sc_sink f d last) (sc_order_grows d w)) r.way)

  joins_with_new : {es es' : List Id} → Joins d es es' → knows (grown d) es' (new_id d) ≡ true
  joins_with_new {es} {es'} joins =
      (decide_iff (dec_sc_reaches (grown d) es' (new_id d))).1
      (record { target = new_id d; listed = joins.new; way = inl refl })

  joins_known : {es es' ts : List Id} → Joins d es es' → Touches d ts → (a : Id) → (a ≡ new_id d → ⊥)
      → knows (grown d) es' a ≡ (knows g es a || knows g (own_events g d.thread ++ ts) a)
  joins_known {es} {es'} {ts} joins touches a n =
      decide_or (dec_sc_reaches g es a) (dec_sc_reaches g (own_events g d.thread ++ ts) a)
      (dec_sc_reaches (grown d) es' a) (into, ⊎_elim old new)
    where
      into : Reaches (ScOrder (grown d)) es' a
          → Reaches (ScOrder g) es a ⊎ Reaches (ScOrder g) (own_events g d.thread ++ ts) a
      into r = ⊎_elim at_new among (joins.back r.target r.listed)
        where
          at_new : r.target ≡ new_id d
              → Reaches (ScOrder g) es a ⊎ Reaches (ScOrder g) (own_events g d.thread ++ ts) a
          at_new q =
              ⊎_elim (λ e. absurd (n (e ∙ q)))
              (λ w. inr (before_new_event f d last touches (subst (ScOrder (grown d) a) q w))) r.way

          among : Member r.target es
              → Reaches (ScOrder g) es a ⊎ Reaches (ScOrder g) (own_events g d.thread ++ ts) a
          among m =
              inl
              (record {
                target = r.target;
                listed = m;
                way = ⊎_elim inl (λ w. inr (old_way (sc_sink f d last) (joins.old r.target m) w)) r.way;
              })

      old : Reaches (ScOrder g) es a → Reaches (ScOrder (grown d)) es' a
      old = reaches_moves (λ b m. (joins.kept b m, sc_order_grows d))

      new : Reaches (ScOrder g) (own_events g d.thread ++ ts) a → Reaches (ScOrder (grown d)) es' a
      new r =
          record { target = new_id d; listed = joins.new; way = inr (reaches_new_event f d last touches r) }

  -- What joins is a list of events that the new one comes after anyway.
  joins_known_within : {es es' ts : List Id} → Joins d es es' → Touches d ts
      → ((b : Id) → Member b es → Member b (own_events g d.thread ++ ts)) → (a : Id) → (a ≡ new_id d → ⊥)
      → knows (grown d) es' a ≡ (knows g (own_events g d.thread) a || knows g ts a)
  joins_known_within {es} {es'} {ts} joins touches within a n =
      joins_known joins touches a n ∙ known_to_more g es (own_events g d.thread ++ ts) a within
      ∙ known_to_both g (own_events g d.thread) ts a

  module _ {L : ℕ} (size : length g.orders ≡ L) where
    old_newest : (y : ℕ) → y < L → newest g y ≡ new_id d → ⊥
    old_newest y h = newest_not_new f d y (subst⁻¹ (λ n. y < n) size h)

    -- After a read: the new event knows what its thread and the newest write of the location know.
    module _ (read : writing d.action ≡ false) where
      touched_newest : Touches d (newest g d.location ∷ [])
      touched_newest = subst⁻¹ (λ w. Touches d (w ∷ [])) (picked_is_newest d last) (read_touches f d last read)

      after_read : (es' : List Id) (k : ℕ → Bool) → ((y : ℕ) → y < L → knows (grown d) es' (newest g y) ≡ k y)
          → known L (grown d) es' ≡ set_of L k
      unfolding known
      after_read es' k h =
          set_of_same L (λ y. knows (grown d) es' (newest (grown d) y)) k
          (λ y l. ap (knows (grown d) es') (newest_kept d read y) ∙ h y l)

      pub read_stays : {es es' : List Id} → Stays d es es' → known L (grown d) es' ≡ known L g es
      unfolding known
      read_stays {es} {es'} stays =
          after_read es' (knows_of g es) (λ y l. stays_known stays (newest g y))

      pub read_joins : {es es' : List Id} → Joins d es es'
          → ((b : Id) → Member b es → Member b (own_events g d.thread ++ newest g d.location ∷ []))
          → known L (grown d) es'
          ≡ join (known L g (own_events g d.thread)) (known L g (newest g d.location ∷ []))
      unfolding known
      read_joins {es} {es'} joins within =
          after_read es'
          (λ y. knows_of g (own_events g d.thread) y || knows_of g (newest g d.location ∷ []) y)
          (λ y l. joins_known_within joins touched_newest within (newest g y) (old_newest y l))
          ∙ sym (join-set_of L (knows_of g (own_events g d.thread)) (knows_of g (newest g d.location ∷ [])))

      -- An access that is not the newest write keeps what it knows.
      pub read_joins_beside : {es es' : List Id} → Joins d es es'
          → known L (grown d) es'
          ≡ join (known L g es) (join (known L g (own_events g d.thread)) (known L g (newest g d.location ∷ [])))
      unfolding known
      read_joins_beside {es} {es'} joins =
          let own = knows_of g (own_events g d.thread) in
          let touched = knows_of g (newest g d.location ∷ []) in
          after_read es' (λ y. knows_of g es y || (own y || touched y))
          (λ y l. joins_known joins touched_newest (newest g y) (old_newest y l)
          ∙ ap (λ b. knows_of g es y || b)
          (known_to_both g (own_events g d.thread) (newest g d.location ∷ []) (newest g y)))
          ∙ sym (ap (join (known L g es)) (join-set_of L own touched)
          ∙ join-set_of L (knows_of g es) (λ y. own y || touched y))

    -- After a write: only where the new event has joined is the newest write of the location known.
    module _ (write : writing d.action ≡ true) where
      after_write : (es' : List Id) (k : ℕ → Bool) → knows (grown d) es' (new_id d) ≡ k d.location
          → ((y : ℕ) → y < L → y ≢ d.location → knows (grown d) es' (newest g y) ≡ k y)
          → known L (grown d) es' ≡ set_of L k
      unfolding known
      after_write es' k here elsewhere =
          set_of_same L (λ y. knows (grown d) es' (newest (grown d) y)) k (λ y l. go y l (ℕ_discrete y d.location))
        where
          go : (y : ℕ) → y < L → Dec (y ≡ d.location) → knows (grown d) es' (newest (grown d) y) ≡ k y
          go y l (yes q) =
              ap (λ z. knows (grown d) es' (newest (grown d) z)) q
              ∙ ap (knows (grown d) es') (new_is_newest d last write)
              ∙ here
              ∙ ap k (sym q)
          go y l (no n) = ap (knows (grown d) es') (newest_elsewhere d y n) ∙ elsewhere y l n

      pub write_stays : {es es' : List Id} → Stays d es es'
          → known L (grown d) es' ≡ remove (known L g es) d.location
      unfolding known
      write_stays {es} {es'} stays =
          after_write es' (λ y. not (eqb d.location y) && knows_of g es y)
          (stays_without_new stays
          ∙ sym (ap (λ b. not b && knows_of g es d.location) (eq-eqb d.location d.location refl)))
          (λ y l n. stays_known stays (newest g y)
          ∙ sym (ap (λ b. not b && knows_of g es y) (ne_eqb d.location y (λ q. n (sym q)))))
          ∙ sym (remove-set_of L (knows_of g es) d.location)

      pub write_joins : {es es' : List Id} → Joins d es es'
          → ((b : Id) → Member b es → Member b (own_events g d.thread ++ accesses g d.location))
          → known L (grown d) es'
          ≡ insert (join (known L g (own_events g d.thread)) (known L g (accesses g d.location))) d.location
      unfolding known
      write_joins {es} {es'} joins within =
          let own = knows_of g (own_events g d.thread) in
          let touched = knows_of g (accesses g d.location) in
          after_write es' (λ y. eqb d.location y || (own y || touched y))
          (joins_with_new joins
          ∙ sym (ap (λ b. b || (own d.location || touched d.location))
          (eq-eqb d.location d.location refl)))
          (λ y l n. joins_known_within joins (write_touches f d last write) within (newest g y) (old_newest y l)
          ∙ sym (ap (λ b. b || (own y || touched y)) (ne_eqb d.location y (λ q. n (sym q)))))
          ∙ sym (ap (λ s. insert s d.location) (join-set_of L own touched)
          ∙ insert-set_of L (λ y. own y || touched y) d.location (subst (λ n. d.location < n) size (has_location d)))
