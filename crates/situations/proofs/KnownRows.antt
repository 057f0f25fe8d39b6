-- The rows of a situation that SC order and the newest writes give, after an SC step: what the update rules say.
use mathlib.Core.Path.{◌≡◌, sym, ap, ap₂, ◌∙◌, subst, subst⁻¹}
use mathlib.Core.Bool.{true, false}
use mathlib.Core.List.Memᴰ
use mathlib.Core.List.{List, [], ◌∷◌, map}
use mathlib.Core.Option.{some}
use Prim.Native.Nat.{ℕ, ◌<◌}
use lib.ListN.{length, get_or, set}
use Rattle.sets.specs.Sets.{insert, remove, join}
use Rattle.program.specs.Thread.{writing}
use Rattle.model.specs.Graph.{Graph, below, value_of, value_written}
use Rattle.model.specs.Readable.{newest, accesses}
use Rattle.model.proofs.Below.{row_of_below}
use Rattle.model.proofs.Growth.{Addition, has_location, new_event, grown, new_there}
use Rattle.model.proofs.WellFormed.{WellFormed}
use Rattle.situations.specs.Situation.{known}
use Rattle.situations.proofs.KnownSets.{read_stays, read_joins, read_joins_beside, write_stays, write_joins}
use Rattle.situations.proofs.Rows.{rows_same, row_set, row_changed_and_set}
use Rattle.situations.proofs.Newest.{newest_kept, newest_elsewhere, new_is_newest, value_kept}
use Rattle.situations.proofs.StepGrowth.{own_events, others_stay, own_joins, newest_stays, newest_joins}
use Rattle.situations.proofs.StepGrowth.{accesses_stay, accesses_join}

-- The value of location y, and what is known to thread u, to the newest write of y, and to the accesses to y.
abbrev value_at : Graph → ℕ → ℕ
value_at g y = value_of g (newest g y)

abbrev to_thread : ℕ → Graph → ℕ → ℕ
to_thread L g u = known L g (own_events g u)

abbrev to_newest : ℕ → Graph → ℕ → ℕ
to_newest L g y = known L g (newest g y ∷ [])

abbrev to_access : ℕ → Graph → ℕ → ℕ
to_access L g y = known L g (accesses g y)

-- The rows of a situation: the same for every location, or for every thread.
abbrev pub value_row : (L : ℕ) → Graph → List ℕ
value_row L g = map (value_at g) (below L)

abbrev pub thread_row : (T L : ℕ) → Graph → List ℕ
thread_row T L g = map (to_thread L g) (below T)

abbrev pub newest_row : (L : ℕ) → Graph → List ℕ
newest_row L g = map (to_newest L g) (below L)

abbrev pub access_row : (L : ℕ) → Graph → List ℕ
access_row L g = map (to_access L g) (below L)

module _ {g : Graph} (f : WellFormed g) (d : Addition g) (last : d.after ≡ [])
    {T L : ℕ} (size : length g.orders ≡ L) (there : d.thread < T) where
  location_there : d.location < L
  location_there = subst (λ n. d.location < n) size (has_location d)

  thread_entry : get_or (thread_row T L g) d.thread 0 ≡ to_thread L g d.thread
  thread_entry = row_of_below (to_thread L g) 0 T d.thread there

  newest_entry : get_or (newest_row L g) d.location 0 ≡ to_newest L g d.location
  newest_entry = row_of_below (to_newest L g) 0 L d.location location_there

  access_entry : get_or (access_row L g) d.location 0 ≡ to_access L g d.location
  access_entry = row_of_below (to_access L g) 0 L d.location location_there

  value_stays : (y : ℕ) → y < L → newest (grown d) y ≡ newest g y → value_at (grown d) y ≡ value_at g y
  value_stays y l q = ap (value_of (grown d)) q ∙ value_kept f d y (subst⁻¹ (λ n. y < n) size l)

  module _ (read : writing d.action ≡ false) where
    -- What the thread knows then.
    abbrev seen_by_read : ℕ
    seen_by_read = join (get_or (thread_row T L g) d.thread 0) (get_or (newest_row L g) d.location 0)

    seen_by_read_lem : seen_by_read ≡ join (to_thread L g d.thread) (to_newest L g d.location)
    seen_by_read_lem = ap₂ join thread_entry newest_entry

    pub values_after_read : value_row L (grown d) ≡ value_row L g
    values_after_read =
        rows_same L (value_at (grown d)) (value_at g) (λ y l. value_stays y l (newest_kept d read y))

    pub threads_after_read : thread_row T L (grown d) ≡ set (thread_row T L g) d.thread seen_by_read
    threads_after_read =
        row_set T (to_thread L (grown d)) (to_thread L g) d.thread seen_by_read
        (λ u l n. read_stays f d last size read (others_stay d u n))
        (λ l. read_joins f d last size read (own_joins d) (λ b. Memᴰ.append_left _) ∙ sym seen_by_read_lem)

    pub newest_after_read : newest_row L (grown d) ≡ newest_row L g
    newest_after_read =
        rows_same L (to_newest L (grown d)) (to_newest L g)
        (λ y l. read_stays f d last size read
        (newest_stays d f y (subst⁻¹ (λ n. y < n) size l) (newest_kept d read y)))

    pub accesses_after_read : access_row L (grown d)
        ≡ set (access_row L g) d.location (join (get_or (access_row L g) d.location 0) seen_by_read)
    accesses_after_read =
        row_set L (to_access L (grown d)) (to_access L g) d.location
        (join (get_or (access_row L g) d.location 0) seen_by_read)
        (λ y l n. read_stays f d last size read (accesses_stay d y n))
        (λ l. read_joins_beside f d last size read (accesses_join d) ∙ sym (ap₂ join access_entry seen_by_read_lem))

  module _ (write : writing d.action ≡ true) where
    -- What the thread, its write and the accesses to the location know then.
    abbrev seen_by_write : ℕ
    seen_by_write =
        insert (join (get_or (thread_row T L g) d.thread 0) (get_or (access_row L g) d.location 0)) d.location

    seen_by_write_lem : seen_by_write
        ≡ insert (join (to_thread L g d.thread) (to_access L g d.location)) d.location
    seen_by_write_lem = ap (λ n. insert n d.location) (ap₂ join thread_entry access_entry)

    abbrev without : List ℕ → List ℕ
    without = map (λ n. remove n d.location)

    pub values_after_write : value_row L (grown d)
        ≡ set (value_row L g) d.location (value_written (some (new_event d)))
    values_after_write =
        row_set L (value_at (grown d)) (value_at g) d.location (value_written (some (new_event d)))
        (λ y l n. value_stays y l (newest_elsewhere d y n))
        (λ l. ap (value_of (grown d)) (new_is_newest d last write) ∙ ap value_written (new_there d))

    pub threads_after_write : thread_row T L (grown d) ≡ set (without (thread_row T L g)) d.thread seen_by_write
    threads_after_write =
        row_changed_and_set T (to_thread L (grown d)) (to_thread L g) (λ n. remove n d.location)
        d.thread seen_by_write
        (λ u l n. write_stays f d last size write (others_stay d u n))
        (λ l. write_joins f d last size write (own_joins d) (λ b. Memᴰ.append_left _) ∙ sym seen_by_write_lem)

    pub newest_after_write : newest_row L (grown d) ≡ set (without (newest_row L g)) d.location seen_by_write
    newest_after_write =
        row_changed_and_set L (to_newest L (grown d)) (to_newest L g) (λ n. remove n d.location)
        d.location seen_by_write
        (λ y l n. write_stays f d last size write
        (newest_stays d f y (subst⁻¹ (λ m. y < m) size l) (newest_elsewhere d y n)))
        (λ l. write_joins f d last size write (newest_joins d d.location (new_is_newest d last write))
        (λ b m. absurd (Memᴰ.not-nil m)) ∙ sym seen_by_write_lem)

    pub accesses_after_write : access_row L (grown d) ≡ set (without (access_row L g)) d.location seen_by_write
    accesses_after_write =
        row_changed_and_set L (to_access L (grown d)) (to_access L g) (λ n. remove n d.location)
        d.location seen_by_write
        (λ y l n. write_stays f d last size write (accesses_stay d y n))
        (λ l. write_joins f d last size write (accesses_join d) (λ b. Memᴰ.append_right (own_events g d.thread))
        ∙ sym seen_by_write_lem)
