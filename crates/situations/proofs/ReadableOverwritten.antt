-- An SC step that writes: the newest write of its location is overwritten and goes stale, and nobody who has seen the
-- new write can read an older one.
use mathlib.Core.Path.{◌≡◌, refl, sym, ap, ◌∙◌, subst, subst⁻¹}
use mathlib.Core.Bool.{Bool, true, false, not, true≢false}
use mathlib.Core.List.Memᴰ
use mathlib.Core.List.{List, [], ◌∷◌, ◌++◌, Memᴰ as Member}
use mathlib.Core.List.{cons≢nil}
use mathlib.Core.Option.{some}
use mathlib.Core.Logic.{◌⊎◌, inl, inr, ⊎_elim, ◌↔◌}
use Prim.Native.Nat.{ℕ}
use Rattle.lists.proofs.Ends.{split_of_snoc, same_last, regroup_snoc, split_not_nil}
use Rattle.program.specs.Thread.{Action, reads, writes, updates, writing}
use Rattle.model.specs.Graph.{Id, Graph, order, value_written, value_of, is_update, event_of}
use Rattle.model.specs.Run.{starts_with_update}
use Rattle.model.specs.Readable.{Readable}
use Rattle.model.proofs.Growth.{Addition, in_order, new_id, new_event, grown, new_there, picked_last, order-grown}
use Rattle.model.proofs.WellFormed.{WellFormed, listed_event_stays}
use Rattle.situations.proofs.ReadableSink.{Seen, seen_kept, new_unseen}
use Rattle.situations.proofs.StepGrowth.{Old}

-- Whether a write that the action overwrites may still be picked: with leave, not before a read-modify-write.
unfoldable pub keeps : (leave : Bool) → Action → Bool
keeps leave reads = true
keeps leave (writes v) = true
keeps leave (updates v) = not leave

keeps_unfollowed : (leave : Bool) (a : Action) (x u : ℕ) (w : Id)
    → (keeps leave a ≡ true) ↔ (leave ≡ true → is_update (some (event_of a x u w)) ≡ false)
unfolding keeps is_update event_of
keeps_unfollowed leave reads x u w = (λ k l. refl, λ h. refl)
keeps_unfollowed leave (writes v) x u w = (λ k l. refl, λ h. refl)
keeps_unfollowed true (updates v) x u w = (λ k l. absurd (true≢false (sym k)), λ h. sym (h refl))
keeps_unfollowed false (updates v) x u w = (λ k l. absurd (true≢false (sym l)), λ h. refl)

module _ {g : Graph} (f : WellFormed g) (d : Addition g) where
  module _ (newest : d.after ≡ []) (w : writing d.action ≡ true) where
    value_kept : {v : Id} → Member v (order g d.location) → value_of (grown d) v ≡ value_of g v
    value_kept {v} m = ap value_written (listed_event_stays f d d.location v m)

    first_kept : (m k : List Id) → (m ≡ [] → ⊥) → ((v : Id) → Member v m → Member v (order g d.location))
        → starts_with_update (grown d) (m ++ k) ≡ starts_with_update g m
    unfolding starts_with_update
    first_kept [] k n e = absurd (n refl)
    first_kept (v ∷ m) k n e =
        ap is_update (listed_event_stays f d d.location v (e v (Member.head refl)))

    -- An older write has the new one after it.
    new_after : {es : List Id} {leave : Bool} {u : ℕ} (r : Readable (grown d) es leave d.location u)
        → (m : List Id) × (r.after ≡ m ++ new_id d ∷ []) × (r.before ++ r.write ∷ m ≡ order g d.location)
    new_after r =
        ⊎_elim (λ q. absurd (r.older q.0)) (λ q. q)
        (split_of_snoc r.before r.write r.after (order g d.location) (new_id d)
        (sym r.split ∙ order-grown d newest w))

    pub none_older : (es : List Id) (leave : Bool) (u : ℕ) → Member (new_id d) es
        → Readable (grown d) es leave d.location u → ⊥
    none_older es leave u m r =
        let a = new_after r in
        r.unseen (new_id d) (subst⁻¹ (Member (new_id d)) a.1 (Memᴰ.append_right a.0 (Member.head refl)))
        (record { target = new_id d; listed = m; way = inl refl })

    module _ (es : List Id) (old : Old d es) (leave : Bool) (u : ℕ) where
      abbrev Overwritten : Type 0
      Overwritten =
          Readable g es leave d.location u ⊎ ((keeps leave d.action ≡ true) × (value_of g d.picked ≡ u))

      stays : Readable g es leave d.location u → Readable (grown d) es leave d.location u
      stays r =
          record {
            before = r.before;
            write = r.write;
            after = r.after ++ new_id d ∷ [];
            split =
                order-grown d newest w ∙ ap (λ l. l ++ new_id d ∷ []) r.split
                ∙ sym (regroup_snoc r.before r.write r.after (new_id d));
            older = λ q. split_not_nil r.after (new_id d) [] (sym q);
            unseen =
                λ v m h. ⊎_elim (λ k. r.unseen v k ((seen_kept f d es old v).0 h))
                (λ k. new_unseen f d es old (subst (Seen (grown d) es) (Memᴰ.eq_of_singleton k) h))
                (Memᴰ.append_cases r.after m);
            unfollowed =
                λ l. first_kept r.after (new_id d ∷ []) r.older (λ v m. listed v (Member.tail m))
                ∙ r.unfollowed l;
            value = value_kept (listed r.write (Member.head refl)) ∙ r.value;
          }
        where
          listed : (v : Id) → Member v (r.write ∷ r.after) → Member v (order g d.location)
          listed v m = subst⁻¹ (Member v) r.split (Memᴰ.append_right r.before m)

      fresh : (keeps leave d.action ≡ true) × (value_of g d.picked ≡ u)
          → Readable (grown d) es leave d.location u
      unfolding starts_with_update
      fresh h =
          record {
            before = d.before;
            write = d.picked;
            after = new_id d ∷ [];
            split =
                order-grown d newest w ∙ ap (λ l. l ++ new_id d ∷ []) (picked_last d newest)
                ∙ sym (regroup_snoc d.before d.picked [] (new_id d));
            older = cons≢nil;
            unseen = λ v m k. new_unseen f d es old (subst (Seen (grown d) es) (Memᴰ.eq_of_singleton m) k);
            unfollowed =
                λ l. ap is_update (new_there d)
                ∙ (keeps_unfollowed leave d.action d.location _ d.picked).0 h.0 l;
            value = value_kept (in_order d) ∙ h.1;
          }

      was : Readable (grown d) es leave d.location u → Overwritten
      unfolding starts_with_update
      was r = let a = new_after r in go a.0 a.1 a.2
        where
          go : (m : List Id) → r.after ≡ m ++ new_id d ∷ [] → r.before ++ r.write ∷ m ≡ order g d.location
              → Overwritten
          go [] q o = inr ((keeps_unfollowed leave d.action d.location _ d.picked).1 followed, value)
            where
              followed : leave ≡ true → is_update (some (new_event d)) ≡ false
              followed l =
                  ap is_update (sym (new_there d)) ∙ ap (starts_with_update (grown d)) (sym q) ∙ r.unfollowed l

              picked : d.picked ≡ r.write
              picked = (same_last d.before r.before d.picked r.write (sym (picked_last d newest) ∙ sym o)).1

              value : value_of g d.picked ≡ u
              value = sym (value_kept (in_order d)) ∙ ap (value_of (grown d)) picked ∙ r.value
          go (v ∷ m) q o =
              inl
              (record {
                before = r.before;
                write = r.write;
                after = v ∷ m;
                split = sym o;
                older = cons≢nil;
                unseen =
                    λ b k h. r.unseen b (subst⁻¹ (Member b) q (Memᴰ.append_left (new_id d ∷ []) k))
                    ((seen_kept f d es old b).1 h);
                unfollowed =
                    λ l. sym (first_kept (v ∷ m) (new_id d ∷ []) cons≢nil (λ b k. listed b (Member.tail k)))
                    ∙ ap (starts_with_update (grown d)) (sym q) ∙ r.unfollowed l;
                value = sym (value_kept (listed r.write (Member.head refl))) ∙ r.value;
              })
            where
              listed : (b : Id) → Member b (r.write ∷ (v ∷ m)) → Member b (order g d.location)
              listed b k = subst (Member b) o (Memᴰ.append_right r.before k)

      pub readable_overwritten : Readable (grown d) es leave d.location u ↔ Overwritten
      readable_overwritten = (was, ⊎_elim stays fresh)
