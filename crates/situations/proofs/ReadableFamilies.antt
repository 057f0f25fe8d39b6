-- The families of sets of values before and after an SC step, for each thread and for each location's newest write.
use mathlib.Core.Path.{◌≡◌, sym, ap, ap₂, ◌∙◌, subst, subst⁻¹}
use mathlib.Core.Bool.{Bool, true, false}
use mathlib.Core.List.{List, [], ◌∷◌, map}
use Prim.Native.Nat.{ℕ, ◌<◌}
use lib.ListN.{length, set}
use Rattle.program.specs.Thread.{writing}
use Rattle.rules.specs.Update.{row_of, stale_at, own_row}
use Rattle.model.specs.Graph.{Graph, below, thread_events, value_of}
use Rattle.model.specs.Readable.{newest}
use Rattle.model.proofs.Growth.{Addition, new_id, grown, has_location, others_ids_stay}
use Rattle.model.proofs.WellFormed.{WellFormed}
use Rattle.model.proofs.Below.{row_of_below}
use Rattle.situations.proofs.ReadableOverwritten.{keeps}
use Rattle.situations.proofs.ReadableRows.{row, met_row, row_of_sources, row_kept, row_by_new, row_stale, own_row_lem}
use Rattle.situations.proofs.ReadableSink.{seen_by_new, thread_new, alone_new}
use Rattle.situations.proofs.Rows.{rows_same, row_set, row_changed_and_set}
use Rattle.situations.proofs.StepGrowth.{thread_events_old, newest_old}
use Rattle.situations.proofs.Newest.{newest_elsewhere, newest_kept, picked_is_newest, new_is_newest}

-- The rows of T threads, and of the newest writes of L locations.
abbrev pub by_thread : (K L T : ℕ) → Graph → (leave : Bool) → List (List ℕ)
by_thread K L T g leave = map (λ t. row K L g leave (thread_events g t)) (below T)

abbrev pub by_newest : (K L : ℕ) → Graph → (leave : Bool) → List (List ℕ)
by_newest K L g leave = map (λ x. row K L g leave (newest g x ∷ [])) (below L)

module _ {g : Graph} (f : WellFormed g) (d : Addition g) (none : d.after ≡ []) (K L T : ℕ) (leave : Bool)
    (locations : length g.orders ≡ L) (thread_is_there : d.thread < T) where
  location_there : {z : ℕ} → z < L → z < length g.orders
  location_there {z} l = subst⁻¹ (λ n. z < n) locations l

  has_place : d.location < L
  has_place = subst (λ n. d.location < n) locations (has_location d)

  -- The row of the access.
  abbrev new_row : List ℕ
  new_row = met_row d.action (row_of (by_thread K L T g leave) d.thread) (row_of (by_newest K L g leave) d.location)

  new_row_lem : row K L g leave (seen_by_new d) ≡ new_row
  new_row_lem =
      row_of_sources K L g leave (thread_events g d.thread) d.picked d.action
      ∙ ap₂ (met_row d.action)
      (sym (row_of_below (λ t. row K L g leave (thread_events g t)) [] T d.thread thread_is_there))
      (sym
      (row_of_below (λ z. row K L g leave (newest g z ∷ [])) [] L d.location has_place
      ∙ ap (λ b. row K L g leave (b ∷ [])) (picked_is_newest d none)))

  module _ (r : writing d.action ≡ false) where
    pub threads_after_read : by_thread K L T (grown d) leave ≡ set (by_thread K L T g leave) d.thread new_row
    threads_after_read =
        row_set T (λ t. row K L (grown d) leave (thread_events (grown d) t)) _ d.thread new_row
        (λ t k n. ap (row K L (grown d) leave) (others_ids_stay d t n)
        ∙ row_kept f d K L leave r (thread_events g t) (thread_events_old d t))
        (λ k. row_by_new f d K L leave r (thread_events (grown d) d.thread) (thread_new d) ∙ new_row_lem)

    pub newest_after_read : by_newest K L (grown d) leave ≡ by_newest K L g leave
    newest_after_read =
        rows_same L _ _
        (λ z l. ap (λ b. row K L (grown d) leave (b ∷ [])) (newest_kept d r z)
        ∙ row_kept f d K L leave r (newest g z ∷ []) (newest_old d f z (location_there l)))

  module _ (w : writing d.action ≡ true) (bound : value_of g d.picked < K) where
    pub threads_after_write : by_thread K L T (grown d) leave
        ≡ set
        (stale_at d.location (keeps leave d.action) (value_of g d.picked) (by_thread K L T g leave))
        d.thread (own_row d.location new_row)
    unfolding stale_at
    threads_after_write =
        row_changed_and_set T (λ t. row K L (grown d) leave (thread_events (grown d) t)) _ _ d.thread _
        (λ t k n. ap (row K L (grown d) leave) (others_ids_stay d t n)
        ∙ row_stale f d K L leave none w (thread_events g t) (thread_events_old d t) has_place bound)
        (λ k. own_row_lem f d K L leave none w (thread_events (grown d) d.thread) (thread_new d)
        ∙ ap (own_row d.location) new_row_lem)

    pub newest_after_write : by_newest K L (grown d) leave
        ≡ set
        (stale_at d.location (keeps leave d.action) (value_of g d.picked) (by_newest K L g leave))
        d.location (own_row d.location new_row)
    unfolding stale_at
    newest_after_write =
        row_changed_and_set L (λ z. row K L (grown d) leave (newest (grown d) z ∷ [])) _ _ d.location _
        (λ z k n. ap (λ b. row K L (grown d) leave (b ∷ [])) (newest_elsewhere d z n)
        ∙ row_stale f d K L leave none w (newest g z ∷ []) (newest_old d f z (location_there k)) has_place bound)
        (λ k. ap (λ b. row K L (grown d) leave (b ∷ [])) (new_is_newest d none w)
        ∙ own_row_lem f d K L leave none w (new_id d ∷ []) (alone_new d)
        ∙ ap (own_row d.location) new_row_lem)
