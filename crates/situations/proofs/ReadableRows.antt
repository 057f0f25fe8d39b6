-- The rows of sets of values before and after an SC step: for each location what could still be read after some events.
use mathlib.Core.Path.{◌≡◌, sym, ap, ◌∙◌}
use mathlib.Core.Bool.{Bool, true, false}
use mathlib.Core.List.{List, [], ◌∷◌, ◌++◌, map, append-nil}
use Prim.Native.Nat.{ℕ, ◌<◌}
use lib.ListN.{get_or, set}
use Rattle.sets.specs.Sets.{empty}
use Rattle.program.specs.Thread.{Action, reads, writes, updates, writing}
use Rattle.rules.specs.Update.{meet_rows, stalen, own_row}
use Rattle.model.specs.Graph.{Id, Graph, below, value_of}
use Rattle.model.specs.Readable.{newest}
use Rattle.model.proofs.Growth.{Addition, grown, order_elsewhere, order_kept}
use Rattle.model.proofs.WellFormed.{WellFormed}
use Rattle.model.proofs.Below.{row_of_below}
use Rattle.situations.specs.Situation.{readable}
use Rattle.situations.proofs.ReadableSink.{New, seen_by_new, sources}
use Rattle.situations.proofs.ReadableOverwritten.{keeps}
use Rattle.situations.proofs.ReadableSets.{readable_met, readable_kept, readable_by_new, own_empty}
use Rattle.situations.proofs.ReadableSets.{readable_stale}
use Rattle.situations.proofs.Rows.{rows_same, row_set, meet_of_rows}
use Rattle.situations.proofs.StepGrowth.{Old}

-- The row after the events es, in a graph with L locations.
abbrev pub row : (K L : ℕ) → Graph → (leave : Bool) → List Id → List ℕ
row K L g leave es = map (readable K g leave es) (below L)

-- The row of an access: of its thread, met with that of the write that it reads.
unfoldable pub met_row : Action → (own newest : List ℕ) → List ℕ
met_row reads own newest = meet_rows own newest
met_row (writes v) own newest = own
met_row (updates v) own newest = meet_rows own newest

-- The row x of stale values, once the newest write of value u is overwritten.
abbrev pub stale_row : (x : ℕ) (kept : Bool) (u : ℕ) → List ℕ → List ℕ
stale_row x kept u r = set r x (stalen kept u (get_or r x 0))

module _ (K L : ℕ) (g : Graph) (leave : Bool) (es : List Id) (w : Id) where
  row_met : row K L g leave (es ++ w ∷ []) ≡ meet_rows (row K L g leave es) (row K L g leave (w ∷ []))
  row_met =
      rows_same L _ _ (λ y l. readable_met K g leave es (w ∷ []) y)
      ∙ sym (meet_of_rows (readable K g leave es) (readable K g leave (w ∷ [])) (below L))

  pub row_of_sources : (a : Action)
      → row K L g leave (es ++ sources a w) ≡ met_row a (row K L g leave es) (row K L g leave (w ∷ []))
  unfolding sources met_row
  row_of_sources reads = row_met
  row_of_sources (writes v) = ap (row K L g leave) (append-nil es)
  row_of_sources (updates v) = row_met

module _ {g : Graph} (f : WellFormed g) (d : Addition g) (K L : ℕ) (leave : Bool) where
  -- After a read.
  module _ (r : writing d.action ≡ false) where
    pub row_kept : (es : List Id) → Old d es → row K L (grown d) leave es ≡ row K L g leave es
    row_kept es old = rows_same L _ _ (λ y l. readable_kept f d K leave y (order_kept d r y) es old)

    pub row_by_new : (es : List Id) → New d es → row K L (grown d) leave es ≡ row K L g leave (seen_by_new d)
    row_by_new es n = rows_same L _ _ (λ y l. readable_by_new f d K leave y (order_kept d r y) es n)

  -- After a write or a read-modify-write.
  module _ (newest : d.after ≡ []) (w : writing d.action ≡ true) where
    pub row_stale : (es : List Id) → Old d es → d.location < L → value_of g d.picked < K
        → row K L (grown d) leave es
        ≡ stale_row d.location (keeps leave d.action) (value_of g d.picked) (row K L g leave es)
    row_stale es old h l =
        row_set L (readable K (grown d) leave es) (readable K g leave es) d.location _
        (λ y k n. readable_kept f d K leave y (order_elsewhere d y n) es old)
        (λ k. readable_stale f d newest w K leave es old l
        ∙ ap (stalen (keeps leave d.action) (value_of g d.picked))
        (sym (row_of_below (readable K g leave es) 0 L d.location h)))

    pub own_row_lem : (es : List Id) → New d es
        → row K L (grown d) leave es ≡ own_row d.location (row K L g leave (seen_by_new d))
    own_row_lem es n =
        row_set L (readable K (grown d) leave es) (readable K g leave (seen_by_new d)) d.location empty
        (λ y k m. readable_by_new f d K leave y (order_elsewhere d y m) es n)
        (λ k. own_empty f d newest w K leave es n.has)
