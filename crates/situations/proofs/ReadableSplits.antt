-- What could still be read, from graph to graph where a location's order is the same, and after two lists of events.
use mathlib.Core.Path.{◌≡◌, refl, sym, ap, ◌∙◌, subst⁻¹}
use mathlib.Core.Bool.{Bool}
use mathlib.Core.List.Memᴰ
use mathlib.Core.List.{List, [], ◌∷◌, ◌++◌, Memᴰ as Member}
use mathlib.Core.Logic.{⊎_elim, ◌↔◌}
use Prim.Native.Nat.{ℕ}
use Rattle.relations.specs.Closure.{Precedes}
use Rattle.relations.proofs.Precedes.{precedes_after}
use Rattle.model.specs.Graph.{Id, Graph, order, event_at, value_written, is_update}
use Rattle.model.specs.Run.{starts_with_update}
use Rattle.model.specs.Readable.{Readable}
use Rattle.relations.proofs.Laws.{reaches_more, reaches_append_cases}
use Rattle.lists.proofs.Ends.{splits_nest}
use Rattle.situations.proofs.ReadableSink.{Seen}

module _ {g g' : Graph} (es es' : List Id) (leave : Bool) (y u : ℕ) (same_order : order g y ≡ order g' y)
    (same_events : (v : Id) → Member v (order g y) → event_at g v ≡ event_at g' v)
    (sees : (a v : Id) → Precedes a v (order g y) → Seen g' es' v → Seen g es v) where
  -- What could be read after es in g, can be after es' in g'.
  pub readable_moves : Readable g es leave y u → Readable g' es' leave y u
  unfolding starts_with_update
  readable_moves r =
      record {
        before = r.before;
        write = r.write;
        after = r.after;
        split = sym same_order ∙ r.split;
        older = r.older;
        unseen = λ v m h. r.unseen v m (sees r.write v (later v m) h);
        unfollowed = λ l. sym (follows r.after (λ v m. same v (Member.tail m))) ∙ r.unfollowed l;
        value = sym (ap value_written (same r.write (Member.head refl))) ∙ r.value;
      }
    where
      later : (v : Id) → Member v r.after → Precedes r.write v (order g y)
      later v m = subst⁻¹ (Precedes r.write v) r.split (precedes_after r.before r.write m)

      same : (v : Id) → Member v (r.write ∷ r.after) → event_at g v ≡ event_at g' v
      same v m = same_events v (subst⁻¹ (Member v) r.split (Memᴰ.append_right r.before m))

      follows : (l : List Id) → ((v : Id) → Member v l → event_at g v ≡ event_at g' v)
          → starts_with_update g l ≡ starts_with_update g' l
      follows [] e = refl
      follows (v ∷ l) e = ap is_update (e v (Member.head refl))

-- What could be read after two lists of events, is what could be read after each.
module _ (g : Graph) (es es' : List Id) (leave : Bool) (y u : ℕ) where
  unseen_by_both : (bs : List Id) (r : Readable g bs leave y u)
      → ((v : Id) → Member v r.after → Seen g es v → ⊥) → ((v : Id) → Member v r.after → Seen g es' v → ⊥)
      → Readable g (es ++ es') leave y u
  unseen_by_both bs r n n' =
      record {
        before = r.before;
        write = r.write;
        after = r.after;
        split = r.split;
        older = r.older;
        unseen = λ v m h. ⊎_elim (n v m) (n' v m) (reaches_append_cases es es' h);
        unfollowed = r.unfollowed;
        value = r.value;
      }

  pub readable_by_both : Readable g (es ++ es') leave y u ↔ (Readable g es leave y u × Readable g es' leave y u)
  readable_by_both = (parts, whole)
    where
      parts : Readable g (es ++ es') leave y u → Readable g es leave y u × Readable g es' leave y u
      parts r = (
        readable_moves (es ++ es') es leave y u refl (λ v m. refl)
            (λ a v h. reaches_more (λ b. Memᴰ.append_left es')) r,
        readable_moves (es ++ es') es' leave y u refl (λ v m. refl)
            (λ a v h. reaches_more (λ b. Memᴰ.append_right es)) r,
      )

      -- What stands after the later of the two writes stands after both.
      whole : Readable g es leave y u × Readable g es' leave y u → Readable g (es ++ es') leave y u
      whole h =
          let r = h.0 in
          let s = h.1 in
          ⊎_elim (λ n. unseen_by_both es r r.unseen (λ v m. s.unseen v (n v m)))
          (λ n. unseen_by_both es' s (λ v m. r.unseen v (n v m)) s.unseen)
          (splits_nest r.before r.write r.after s.before s.write s.after (sym r.split ∙ s.split))
