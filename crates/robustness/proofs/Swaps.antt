-- When an SC access and a later access of another thread change places: at different locations always; at one
-- location where the SC access still meets the write that it picked, or is a plain write.
use mathlib.Core.Path.{◌≡◌, refl, sym, ap, ◌∙◌, subst⁻¹}
use mathlib.Core.Bool.{false}
use mathlib.Core.List.{List, [], ◌∷◌, ◌++◌, append-nil, append_assoc, Memᴰ as Member}
use mathlib.Core.Logic.{◌⊎◌, inl, inr, ⊎_elim, ◌≢◌}
use Prim.Native.Nat.{ℕ}
use lib.ListN.{set}
use lib.Seq.{set_comm, set-set, append_snoc}
use Rattle.lists.proofs.Ends.{Snoc, split_has_last, same_last, regroup_snoc, member_put_in}
use Rattle.program.specs.Program.{Program}
use Rattle.program.specs.Thread.{Action, reads, writes, updates, writing}
use Rattle.model.specs.Graph.{Id, Graph, order, value_written, value_of, next_id, event_of, directly_after}
use Rattle.model.specs.Run.{State, thread_of, Access, graph_after, state_after}
use Rattle.model.proofs.Lookup.{other_order, new_order_lem}
use Rattle.model.proofs.Growth.{has_location, not_written, picked_last, order_kept}
use Rattle.model.proofs.Reachable.{Good, addition_of}
use Rattle.robustness.proofs.Exchange.{pulled, Swap}
use Rattle.robustness.proofs.PlainWrite.{plain_write_ignores}
use Rattle.model.proofs.WellFormed.{listed_event_stays}

pub directly_after_append : (a : Action) (e : Id) (l m : List Id)
    → directly_after a e (l ++ m) ≡ directly_after a e l ++ m
unfolding directly_after
directly_after_append reads e l m = refl
directly_after_append (writes v) e l m = refl
directly_after_append (updates v) e l m = refl

module _ {p : Program} {s : State} {q t : ℕ} (f : Good p s) (a : Access p s q) (newest : a.after ≡ [])
    (b : Access p (state_after a) t) (n : q ≢ t) where
  split_newest : order s.graph a.location ≡ a.before ++ a.picked ∷ []
  split_newest = picked_last (addition_of f a) newest

  module _ (earlier : List Id) (split : order s.graph b.location ≡ b.before ++ b.picked ∷ earlier) where
    -- The value of the write that the SC access picked, after the other access.
    value_kept : value_of (state_after (pulled f a b n earlier split)).graph a.picked ≡ value_of s.graph a.picked
    unfolding state_after graph_after
    value_kept =
        ap value_written
        (listed_event_stays f.well_formed (addition_of f (pulled f a b n earlier split)) a.location a.picked
        (subst⁻¹ (Member a.picked) split_newest (member_put_in a.before a.picked [])))

  pub split_elsewhere : a.location ≢ b.location → order s.graph b.location ≡ b.before ++ b.picked ∷ b.after
  unfolding state_after graph_after
  split_elsewhere k = sym (other_order s.graph q _ a.location _ b.location (λ j. k (sym j))) ∙ b.split

  pub swap_elsewhere : (k : a.location ≢ b.location) → Swap f a b n b.after (split_elsewhere k)
  unfolding state_after graph_after
  swap_elsewhere k =
      record {
        front = a.before;
        final = a.picked;
        found = other_order s.graph t _ b.location _ a.location k ∙ split_newest;
        allows = ap a.effects (value_kept b.after (split_elsewhere k)) ∙ a.allows;
        same_event =
            ap (λ u. event_of a.effect.action a.location u a.picked)
            (value_kept b.after (split_elsewhere k));
        same_orders =
            set_comm s.graph.orders b.location a.location _ _ (λ j. k (sym j))
            ∙ ap (λ l. set (set s.graph.orders a.location (placed l)) b.location there) (sym newest);
      }
    where
      placed : List Id → List Id
      placed l = a.before ++ a.picked ∷ directly_after a.effect.action (next_id s.graph q) l

      there : List Id
      there = b.before ++ b.picked ∷ directly_after b.effect.action (next_id s.graph t) b.after

  -- At the same location, where the SC access does not write.
  pub split_unwritten : a.location ≡ b.location → writing a.effect.action ≡ false
      → order s.graph b.location ≡ b.before ++ b.picked ∷ b.after
  unfolding state_after graph_after
  split_unwritten k w =
      ap (order s.graph) (sym k) ∙ sym (order_kept (addition_of f a) w a.location)
      ∙ ap (order (graph_after a)) k ∙ b.split

  pub rest_unwritten : writing a.effect.action ≡ false → (l : List Id)
      → l ≡ l ++ directly_after a.effect.action (next_id s.graph q) []
  rest_unwritten w l =
      sym (append-nil l) ∙ ap (λ m. l ++ m) (sym (not_written a.effect.action (next_id s.graph q) [] w))

  -- Why the SC access at the same location does the same after the other one.
  pub data SameThere (earlier : List Id) : Type 0 where
    unwritten : writing b.effect.action ≡ false → SameThere earlier
    older : Snoc earlier → SameThere earlier
    plain : (v : ℕ) → a.effect.action ≡ writes v → SameThere earlier

  module _ (k : a.location ≡ b.location) (earlier : List Id)
      (split : order s.graph b.location ≡ b.before ++ b.picked ∷ earlier)
      (rest : b.after ≡ earlier ++ directly_after a.effect.action (next_id s.graph q) []) where
    placed : List Id → List Id
    placed l = b.before ++ b.picked ∷ directly_after b.effect.action (next_id s.graph t) l

    -- The last of the order after the other access.
    record Found : Type 0 where
      front : List Id
      final : Id
      whole : placed earlier ≡ front ++ final ∷ []
      same : (final ≡ a.picked) ⊎ ((v : ℕ) × (a.effect.action ≡ writes v))

    one_order : a.before ++ a.picked ∷ [] ≡ b.before ++ b.picked ∷ earlier
    one_order = sym split_newest ∙ ap (order s.graph) k ∙ split

    find : SameThere earlier → Found
    unfolding placed
    find (unwritten w) =
        record {
          front = a.before;
          final = a.picked;
          whole =
              ap (λ l. b.before ++ b.picked ∷ l) (not_written b.effect.action (next_id s.graph t) earlier w)
              ∙ sym one_order;
          same = inl refl;
        }
    find (older r) =
        record {
          front = placed r.front;
          final = r.final;
          whole =
              ap placed r.whole
              ∙ ap (λ l. b.before ++ b.picked ∷ l)
              (directly_after_append b.effect.action (next_id s.graph t) r.front (r.final ∷ []))
              ∙ regroup_snoc b.before b.picked
              (directly_after b.effect.action (next_id s.graph t) r.front) r.final;
          same =
              inl
              (sym
              (same_last a.before (b.before ++ b.picked ∷ r.front) a.picked r.final
              (one_order ∙ ap (λ l. b.before ++ b.picked ∷ l) r.whole ∙ regroup_snoc b.before b.picked
              r.front r.final)).1);
        }
    find (plain v w) =
        let r = split_has_last b.before b.picked
        (directly_after b.effect.action (next_id s.graph t) earlier) in
        record { front = r.front; final = r.final; whole = r.whole; same = inr (v, w) }

    same_event_lem : (u u' : ℕ) (w w' : Id) (v : ℕ) → a.effect.action ≡ writes v
        → event_of a.effect.action a.location u w ≡ event_of a.effect.action a.location u' w'
    unfolding event_of
    same_event_lem u u' w w' v h =
        ap (λ c. event_of c a.location u w) h ∙ sym (ap (λ c. event_of c a.location u' w') h)

    pub swap_here : SameThere earlier → Swap f a b n earlier split
    unfolding state_after graph_after placed
    swap_here e =
        record {
          front = r.front;
          final = r.final;
          found = there ∙ r.whole;
          allows =
              ⊎_elim
              (λ z. ap (λ w. a.effects (value_of here w)) z ∙ ap a.effects (value_kept earlier split) ∙ a.allows)
              (λ z. plain_write_ignores p q (thread_of s q) a.effects (value_of s.graph a.picked)
              (value_of here r.final) a.line a.allows z.1) r.same;
          same_event =
              ⊎_elim
              (λ z. ap (λ w. event_of a.effect.action a.location (value_of here w) w) z
              ∙ ap (λ u. event_of a.effect.action a.location u a.picked) (value_kept earlier split))
              (λ z. same_event_lem (value_of here r.final) (value_of s.graph a.picked) r.final a.picked
              z.0 z.1) r.same;
          same_orders =
              (λ i. set (set s.graph.orders b.location (placed earlier)) (k i) (r.front ++ r.final ∷ new_a))
              ∙ set-set s.graph.orders b.location (placed earlier) (r.front ++ r.final ∷ new_a)
              ∙ ap (set s.graph.orders b.location) together
              ∙ sym (set-set s.graph.orders b.location placed_a (placed b.after))
              ∙ (λ i. set (set s.graph.orders (k⁻¹ i) placed_a) b.location (placed b.after));
        }
      where
        r : Found
        r = find e

        here : Graph
        here = (state_after (pulled f a b n earlier split)).graph

        there : order here a.location ≡ placed earlier
        there =
            ap (order here) k ∙ new_order_lem s.graph t _ b.location _
            (has_location (addition_of f (pulled f a b n earlier split)))

        new_a : List Id
        new_a = directly_after a.effect.action (next_id s.graph q) []

        placed_a : List Id
        placed_a = a.before ++ a.picked ∷ directly_after a.effect.action (next_id s.graph q) a.after

        k⁻¹ : b.location ≡ a.location
        k⁻¹ = sym k

        together : r.front ++ r.final ∷ new_a ≡ placed b.after
        together =
            sym (append_snoc r.front r.final new_a) ∙ ap (λ l. l ++ new_a) (sym r.whole)
            ∙ append_assoc b.before
            (b.picked ∷ directly_after b.effect.action (next_id s.graph t) earlier) new_a
            ∙ ap (λ l. b.before ++ b.picked ∷ l)
            (sym (directly_after_append b.effect.action (next_id s.graph t) earlier new_a))
            ∙ ap placed (sym rest)
