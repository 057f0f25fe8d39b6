-- After an access on both sides, views show no more than is known.
use mathlib.Core.Path.{◌≡◌, refl, ap, ◌∙◌, subst⁻¹}
use mathlib.Core.Bool.{true}
use mathlib.Core.List.{Memᴰ as Member}
use mathlib.Core.Logic.{◌⊎◌, inl, inr, ⊎_elim}
use Prim.Native.Nat.{ℕ}
use native.Mathlib.Omega.{arith}
use native.Mathlib.Decide.{ℕ_discrete}
use Rattle.relations.specs.Closure.{edge, IsOrBefore, Reaches}
use Rattle.relations.proofs.Laws.{is_or_before_joins}
use Rattle.program.specs.Thread.{writing}
use Rattle.model.specs.Graph.{Id, Graph, order, thread_events, source_of}
use Rattle.model.specs.Order.{thread_order, reads_from, HappensBefore}
use Rattle.model.proofs.Growth.{Addition, in_order, new_id, grown, new_is_own, member_stays, member_old_or_new}
use Rattle.model.proofs.Growth.{new_listed, new_there, happens_before_grows}
use Rattle.model.proofs.WellFormed.{WellFormed}
use Rattle.model.proofs.NewEdges.{own_before_new}
use Rattle.robustness.proofs.Seen.{happens_seen_grows}
use Rattle.machine.specs.Memory.{View, Message, MemoryState}
use Rattle.machine.proofs.Views.{takes}
use Rattle.machine.proofs.Mirrors.{Shown, nothing, write, Mirrors}
use Rattle.machine.proofs.Matched.{Matched, taken_is_source, same_time, same_view, is_new, listed_is_old, sent'}
use Rattle.machine.proofs.Matched.{own_view, other_view, written_after, kept_after, fits_after, own_time_after}
use Rattle.machine.proofs.Matched.{start_is_old, along_edges_after, own_events_after}

same_shown : {g : Graph} {sent : Id → Message} {Known : Id → Type 0} {T T' : View} {y : ℕ} → T' y ≡ T y
    → Shown g sent Known T y → Shown g sent Known T' y
same_shown q (nothing z) = nothing (q ∙ z)
same_shown q (write v l h b) = write v l h (omega arith)

module _ {m m' : MemoryState} {g : Graph} {sent : Id → Message} (w : WellFormed g) (f : Mirrors m g sent)
    {d : Addition g} {n : Message} (k : Matched m m' sent d n) where
  shown_stays : {Known Known' : Id → Type 0} {T : View} {y : ℕ} → ((v : Id) → Known v → Known' v)
      → Shown g sent Known T y
      → Shown (grown d) (sent' w f k) Known' T y
  shown_stays into (nothing z) = nothing z
  shown_stays {y = y} into (write v l h b) =
      write v (member_stays d y l) (into v h) (omega (arith, same_time (listed_is_old w f k y l)))

  before_grows : {a b : Id} → IsOrBefore (HappensBefore g) a b → IsOrBefore (HappensBefore (grown d)) a b
  before_grows = ⊎_elim inl (λ h. inr (happens_before_grows d h))

  -- What the thread has seen, and what is before the write that is read, is before the new event.
  happens_seen_before_new : (v : Id) → Reaches (HappensBefore g) (thread_events g d.thread) v
      → IsOrBefore (HappensBefore (grown d)) v (new_id d)
  happens_seen_before_new v r =
      is_or_before_joins (before_grows r.way) (inr (edge (thread_order (own_before_new d r.listed))))

  read_before_new : takes d.action ≡ true → (v : Id) → IsOrBefore (HappensBefore g) v d.picked
      → IsOrBefore (HappensBefore (grown d)) v (new_id d)
  read_before_new h v r =
      is_or_before_joins (before_grows r)
      (inr (edge (reads_from (ap source_of (new_there d) ∙ taken_is_source d.action d.location _ d.picked h))))

  new_shows : (y : ℕ)
      → Shown (grown d) (sent' w f k) (λ v. IsOrBefore (HappensBefore (grown d)) v (new_id d)) n.view y
  new_shows y = go (k.view.only y)
    where
      go : (n.view y ≡ m.views d.thread y)
          ⊎ (((takes d.action ≡ true) × (n.view y ≡ (sent d.picked).view y))
          ⊎ ((writing d.action ≡ true) × (y ≡ d.location) × (n.view y ≡ n.time)))
          → Shown (grown d) (sent' w f k) (λ v. IsOrBefore (HappensBefore (grown d)) v (new_id d)) n.view y
      go (inl q) = same_shown q (shown_stays happens_seen_before_new (f.thread_shows d.thread y))
      go (inr (inl h)) =
          same_shown h.1
          (shown_stays (read_before_new h.0) (f.message_shows d.location d.picked (in_order d) y))
      go (inr (inr h)) =
          write (new_id d) (subst⁻¹ (λ x. Member (new_id d) (order (grown d) x)) h.1 (new_listed d h.0)) (inl refl)
          (omega (arith, h.2, same_time (is_new w f k refl)))

  thread_shows_after : (t y : ℕ)
      → Shown (grown d) (sent' w f k) (Reaches (HappensBefore (grown d)) (thread_events (grown d) t)) (m'.views t) y
  thread_shows_after t y = go (ℕ_discrete t d.thread)
    where
      own : Shown (grown d) (sent' w f k) (λ v. IsOrBefore (HappensBefore (grown d)) v (new_id d)) n.view y
          → Shown (grown d) (sent' w f k) (Reaches (HappensBefore (grown d)) (thread_events (grown d) d.thread))
          (m'.views d.thread) y
      own (nothing z) = nothing (ap (λ (T : View). T y) (own_view w f k) ∙ z)
      own (write v l h b) =
          write v l (record { target = new_id d; listed = new_is_own d; way = h })
          (omega (arith, ap (λ (T : View). T y) (own_view w f k)))

      go : Dec (t ≡ d.thread)
          → Shown (grown d) (sent' w f k) (Reaches (HappensBefore (grown d)) (thread_events (grown d) t)) (m'.views t) y
      go (yes q) =
          subst⁻¹
          (λ u. Shown (grown d) (sent' w f k) (Reaches (HappensBefore (grown d)) (thread_events (grown d) u))
          (m'.views u) y)
          q
          (own (new_shows y))
      go (no q) =
          same_shown (ap (λ (T : View). T y) (other_view w f k t q))
          (shown_stays (λ v. happens_seen_grows d t) (f.thread_shows t y))

  message_shows_after : (x : ℕ) (a : Id) → Member a (order (grown d) x) → (y : ℕ)
      → Shown (grown d) (sent' w f k) (λ v. IsOrBefore (HappensBefore (grown d)) v a) (sent' w f k a).view y
  message_shows_after x a there y = ⊎_elim new old (member_old_or_new d x there)
    where
      old : Member a (order g x)
          → Shown (grown d) (sent' w f k) (λ v. IsOrBefore (HappensBefore (grown d)) v a) (sent' w f k a).view y
      old h =
          same_shown (same_view (listed_is_old w f k x h) y)
          (shown_stays (λ v. before_grows) (f.message_shows x a h y))

      new : (a ≡ new_id d) × (◌≡◌ {A = ℕ} x d.location) × (writing d.action ≡ true)
          → Shown (grown d) (sent' w f k) (λ v. IsOrBefore (HappensBefore (grown d)) v a) (sent' w f k a).view y
      new h =
          same_shown (same_view (is_new w f k h.0) y)
          (subst⁻¹
          (λ b. Shown (grown d) (sent' w f k) (λ v. IsOrBefore (HappensBefore (grown d)) v b) n.view y)
          h.0 (new_shows y))

  pub mirrors_grows : Mirrors m' (grown d) (sent' w f k)
  mirrors_grows =
      record {
        written = written_after w f k;
        kept = kept_after w f k;
        fits = fits_after w f k;
        own_time = own_time_after w f k;
        start_view_zero = λ x y. same_view (start_is_old w f k x) y ∙ f.start_view_zero x y;
        along_edges = along_edges_after w f k;
        own_events = own_events_after w f k;
        thread_shows = thread_shows_after;
        message_shows = message_shows_after;
      }
