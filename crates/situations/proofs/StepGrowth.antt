-- The lists of events that a situation's sets are about, after an access: which stay, and which the new event joins.
use mathlib.Core.Path.{◌≡◌, sym, ap, ◌∙◌, subst, subst⁻¹}
use mathlib.Core.List.Memᴰ
use mathlib.Core.List.{List, [], ◌∷◌, ◌++◌, map, Memᴰ as Member}
use mathlib.Core.Option.{some}
use mathlib.Core.Logic.{◌⊎◌, inl, inr, ⊎_elim, ◌≢◌}
use Prim.Native.Nat.{ℕ, ◌<◌}
use native.Mathlib.Omega.{arith}
use lib.ListN.{length}
use Rattle.model.specs.Graph.{Id, start, Event, Graph, event_at, below, thread_events, location_of}
use Rattle.model.specs.Readable.{newest, starts, accesses}
use Rattle.model.proofs.Lookup.{present_not_next, own_not_next}
use Rattle.model.proofs.Growth.{Addition, new_id, grown, locations_stay, others_ids_stay, own_id_stays, new_is_own}
use Rattle.model.proofs.Growth.{own_old_or_new, event_stays, new_there, there_old_or_new}
use Rattle.model.proofs.WellFormed.{WellFormed, new_location}
use Rattle.situations.proofs.StepLists.{is_access, access_is, listed_start}
use Rattle.situations.proofs.Newest.{newest_not_new}

-- The events of the thread, "starting writes counted".
abbrev pub own_events : Graph → ℕ → List Id
own_events g t = thread_events g t ++ starts g

-- None of the events is the one that the access adds.
abbrev pub Old : {g : Graph} → Addition g → List Id → Type 0
Old d es = (a : Id) → Member a es → a ≡ new_id d → ⊥

-- A list of old events that stays, and one that the new event joins.
pub record Stays {g : Graph} (d : Addition g) (es es' : List Id) : Type 0 where
  pub kept : (a : Id) → Member a es → Member a es'
  pub back : (a : Id) → Member a es' → Member a es
  pub old : Old d es

pub record Joins {g : Graph} (d : Addition g) (es es' : List Id) : Type 0 where
  pub kept : (a : Id) → Member a es → Member a es'
  pub back : (a : Id) → Member a es' → (a ≡ new_id d) ⊎ Member a es
  pub new : Member (new_id d) es'
  pub old : Old d es

module _ {g : Graph} (d : Addition g) where
  same_stays : {es es' : List Id} → es' ≡ es → Old d es → Stays d es es'
  same_stays q old = record { kept = λ a. subst⁻¹ (Member a) q; back = λ a. subst (Member a) q; old = old }

  -- The events of the threads.
  starts_kept : starts (grown d) ≡ starts g
  unfolding starts
  starts_kept = ap (λ n. map start (below n)) (locations_stay d)

  pub thread_events_old : (u : ℕ) → Old d (thread_events g u)
  thread_events_old = own_not_next g d.thread

  starts_old : Old d (starts g)
  starts_old a m q = let r = listed_start g m in let z : ◌≡◌ {A = ℕ} 0 1 = cc r.2 in omega arith

  own_events_old : (u : ℕ) → Old d (own_events g u)
  own_events_old u a m q =
      ⊎_elim (λ k. thread_events_old u a k q) (λ k. starts_old a k q) (Memᴰ.append_cases (thread_events g u) m)

  pub others_stay : (u : ℕ) → u ≢ d.thread → Stays d (own_events g u) (own_events (grown d) u)
  others_stay u n = same_stays (λ i. others_ids_stay d u n i ++ starts_kept i) (own_events_old u)

  pub own_joins : Joins d (own_events g d.thread) (own_events (grown d) d.thread)
  own_joins =
      record {
        kept =
            λ a m. ⊎_elim (λ k. Memᴰ.append_left (starts (grown d)) (own_id_stays d d.thread k))
            (λ k. Memᴰ.append_right (thread_events (grown d) d.thread) (subst⁻¹ (Member a) starts_kept k))
            (Memᴰ.append_cases (thread_events g d.thread) m);
        back =
            λ a m. ⊎_elim (λ k. ⊎_elim inl (λ o. inr (Memᴰ.append_left (starts g) o)) (own_old_or_new d k))
            (λ k. inr (Memᴰ.append_right (thread_events g d.thread) (subst (Member a) starts_kept k)))
            (Memᴰ.append_cases (thread_events (grown d) d.thread) m);
        new = Memᴰ.append_left (starts (grown d)) (new_is_own d);
        old = own_events_old d.thread;
      }

  -- One old event, and the new one alone.
  module _ (f : WellFormed g) (y : ℕ) (h : y < length g.orders) where
    pub newest_old : Old d (newest g y ∷ [])
    newest_old a m e = newest_not_new f d y h (sym (Memᴰ.eq_of_singleton m) ∙ e)

    pub newest_stays : newest (grown d) y ≡ newest g y → Stays d (newest g y ∷ []) (newest (grown d) y ∷ [])
    newest_stays q = same_stays (ap (λ w. w ∷ []) q) newest_old

  pub newest_joins : (y : ℕ) → newest (grown d) y ≡ new_id d → Joins d [] (newest (grown d) y ∷ [])
  newest_joins y q =
      record {
        kept = λ a m. absurd (Memᴰ.not-nil m);
        back = λ a m. inl (Memᴰ.eq_of_singleton m ∙ q);
        new = Member.head (sym q);
        old = λ a m e. Memᴰ.not-nil m;
      }

  -- The accesses to a location.
  access_old : (x : ℕ) → Old d (accesses g x)
  access_old x a m = present_not_next g d.thread a (access_is g x a m).1

  access_kept : (x : ℕ) (a : Id) → Member a (accesses g x) → Member a (accesses (grown d) x)
  access_kept x a m = let r = access_is g x a m in is_access (grown d) x a (event_stays d a r.1) r.2

  new_access : (x : ℕ) (a : Id) {v : Event} → event_at (grown d) a ≡ some v → location_of v ≡ x
      → ((a ≡ new_id d) × (x ≡ d.location)) ⊎ Member a (accesses g x)
  new_access x a {v} h q =
      ⊎_elim
      (λ n. inl (n.0, sym q ∙ ap location_of n.1 ∙ new_location d.action d.location _ d.picked))
      (λ o. inr (is_access g x a o q)) (there_old_or_new d a h)

  pub accesses_stay : (x : ℕ) → x ≢ d.location → Stays d (accesses g x) (accesses (grown d) x)
  accesses_stay x n =
      record {
        kept = access_kept x;
        back =
            λ a m. let r = access_is (grown d) x a m in
            ⊎_elim (λ k. absurd (n k.1)) (λ k. k) (new_access x a r.1 r.2);
        old = access_old x;
      }

  pub accesses_join : Joins d (accesses g d.location) (accesses (grown d) d.location)
  accesses_join =
      record {
        kept = access_kept d.location;
        back =
            λ a m. let r = access_is (grown d) d.location a m in
            ⊎_elim (λ k. inl k.0) inr (new_access d.location a r.1 r.2);
        new =
            is_access (grown d) d.location (new_id d) (new_there d)
            (new_location d.action d.location _ d.picked);
        old = access_old d.location;
      }
