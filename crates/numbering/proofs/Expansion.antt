-- The queue's table, without where each place was reached from: the start and what is new among the kids of its own
-- first places.
use Prim.Native.Nat.{ℕ, zero, suc, ◌≤◌}
use native.Mathlib.Omega.{arith}
use mathlib.Core.Path.{◌≡◌, refl, sym, ap, ◌∙◌, fun_ext}
use mathlib.Core.Bool.{Bool}
use mathlib.Core.List.{List, [], ◌∷◌, ◌++◌, map, flat_map, filter_map, map-append, map-filter_map}
use mathlib.Core.Option.{Option, none, some, map-map as map_twice}
use lib.ListN.{length, take, get_elem?}
use lib.Seq.{take_all}
use Rattle.lists.proofs.Places.{place_empty}
use Rattle.lists.proofs.Pieces.{pieces_of_append, pieces_of_one}
use Rattle.numbering.specs.Schedule.{threads}
use Rattle.numbering.specs.Numbering.{Visit, Entry, extend, visit}
use Rattle.numbering.specs.Queue.{first, child, children_by, queue, child_to}
use Rattle.numbering.proofs.Fronts.{one_more_in_front}
use Rattle.numbering.proofs.Extend.{extend_append, extend_image}
use Rattle.numbering.proofs.Visits.{kids}
use Rattle.numbering.proofs.Firsts.{key_of, expanded}
use Rattle.numbering.proofs.Turns.{entry_key, queue_expands, queue_at_rest, front_settled}

-- The visit of an entry.
abbrev pub visit_of : {A : Type 0} → Entry A → Visit A
visit_of x = visit x.path x.key

module _ {A : Type 0} (same : A → A → Bool) (T : ℕ) (start : A) (step : ℕ → A → Option A) where
  abbrev table : ℕ → List (Entry A)
  table i = queue same T start step i

  -- The visits of the queue's entries.
  abbrev visited : ℕ → List (Visit A)
  visited i = map visit_of (table i)

  abbrev grown : List (Visit A) → List (Visit A)
  grown l = expanded same T start step l

  visits_of_children : (i : ℕ) (x : Entry A) → map visit_of (children_by step i x (threads T)) ≡ kids T step (visit_of x)
  unfolding children_by child kids
  visits_of_children i x =
      map-filter_map (child step i x) visit_of (threads T)
      ∙ ap (λ f. filter_map f (threads T)) (fun_ext (λ t. map_twice visit_of (child_to i x t) (step t x.key)))

  visited_expands : (i : ℕ) (x : Entry A) → get_elem? (table i) i ≡ some x
      → visited (suc i) ≡ extend same key_of (visited i) (kids T step (visit_of x))
  visited_expands i x h =
      ap (map visit_of) (queue_expands same T start step i x h)
      ∙ extend_image same same entry_key key_of (λ a. a) visit_of (λ y. refl) (λ a. Unit) (λ a b g k. refl) (table i)
      (children_by step i x (threads T)) (λ y m. tt) (λ y m. tt)
      ∙ ap (extend same key_of (visited i)) (visits_of_children i x)

  expanded_one_more : (l : List (Visit A)) (v : Visit A)
      → extend same key_of (grown l) (kids T step v) ≡ grown (l ++ v ∷ [])
  expanded_one_more l v =
      sym (extend_append same key_of (visit [] start ∷ []) (flat_map (kids T step) l) (kids T step v))
      ∙ ap (extend same key_of (visit [] start ∷ []))
      (ap (λ m. flat_map (kids T step) l ++ m) (sym (pieces_of_one (kids T step) v))
      ∙ sym (pieces_of_append (kids T step) l (v ∷ [])))

  -- The table is the start and then what is new among the kids of its own first i places.
  pub visited_by_expansion : (i : ℕ) → visited i ≡ grown (map visit_of (take i (table i)))
  unfolding queue first extend flat_map
  visited_by_expansion zero = refl
  visited_by_expansion (suc i) = go (get_elem? (table i) i) refl (visited_by_expansion i)
    where
      q : List (Entry A)
      q = table i

      settled : take (suc i) q ≡ take (suc i) (table (suc i))
      settled = sym (front_settled same T start step i)

      go : (o : Option (Entry A)) → get_elem? q i ≡ o → visited i ≡ grown (map visit_of (take i q))
          → visited (suc i) ≡ grown (map visit_of (take (suc i) (table (suc i))))
      go none e below =
          let h : length q ≤ i = place_empty q i e in
          ap (map visit_of) (queue_at_rest same T start step i (suc i) (omega arith) h) ∙ below
          ∙ ap (λ m. grown (map visit_of m)) (take_all i q h ∙ sym (take_all (suc i) q (omega arith)) ∙ settled)
      go (some x) e below =
          visited_expands i x e ∙ ap (λ m. extend same key_of m (kids T step (visit_of x))) below
          ∙ expanded_one_more (map visit_of (take i q)) (visit_of x)
          ∙ ap grown (sym (map-append visit_of (take i q) (x ∷ [])))
          ∙ ap (λ m. grown (map visit_of m)) (sym (one_more_in_front i q e) ∙ settled)
