-- An access of t with a write that is not the newest is possible before an SC step of another thread, and that step
-- after it gives the same state.
use mathlib.Core.Path.{◌≡◌, refl, sym, ap, ◌∙◌, subst⁻¹}
use mathlib.Core.Bool.{true, false}
use mathlib.Core.List.Memᴰ
use mathlib.Core.List.{List, [], ◌∷◌, ◌++◌, append-nil, Memᴰ as Member}
use mathlib.Core.Option.{some}
use mathlib.Core.Logic.{◌⊎◌, inl, inr, ⊎_elim, ◌≢◌}
use Prim.Native.Nat.{ℕ}
use native.Mathlib.Omega.{arith}
use native.Mathlib.Decide.{ℕ_discrete}
use Rattle.lists.proofs.Ends.{Snoc, empty_or_snoc, split_of_snoc, member_put_in, split_not_nil}
use Rattle.program.specs.Program.{Program}
use Rattle.program.specs.Thread.{ThreadState, Action, reads, writes, updates, next_line, local, writing}
use Rattle.model.specs.Graph.{Id, order, is_update, value_of, next_id, event_of, directly_after}
use Rattle.model.specs.Run.{State, thread_of, Access, graph_after, state_after, after_local, starts_with_update, Allowed}
use Rattle.model.specs.Run.{local_step, access_step, ScStep}
use Rattle.model.proofs.Growth.{Addition, new_id, written, writing_cases, new_there, order-grown}
use Rattle.model.proofs.Reachable.{Good, addition_of}
use Rattle.robustness.proofs.Seen.{happens_seen_grows}
use Rattle.robustness.proofs.Exchange.{thread_unmoved, value_unmoved, pulled, Swap, second, exchanged}
use Rattle.robustness.proofs.Exchange.{other_thread}
use Rattle.robustness.proofs.Swaps.{split_elsewhere, swap_elsewhere, split_unwritten, rest_unwritten, SameThere}
use Rattle.robustness.proofs.Swaps.{unwritten, older, plain, swap_here}
use Rattle.robustness.proofs.Diamond.{before_local, local_after}
use Rattle.model.proofs.WellFormed.{listed_event_stays}

-- The access b of t at s', made at s before the step of q from s to s'.
pub record Pushed (p : Program) (q t : ℕ) (s s' : State) (b : Access p s' t) : Type 0 where
  pub first : Access p s t
  pub allowed : Allowed p s.graph t first.effect.action first.after
  pub then : ScStep p q (state_after first) (state_after b)
  pub same_thread : thread_of s t ≡ thread_of s' t
  pub same_value : value_of s.graph first.picked ≡ value_of s'.graph b.picked

-- A writing access that is no update is a plain write.
plain_of : (a : Action) (x u : ℕ) (w : Id) → writing a ≡ true → is_update (some (event_of a x u w)) ≡ false
    → (v : ℕ) × (a ≡ writes v)
unfolding writing is_update event_of
plain_of reads x u w h k = absurd (let z : ◌≡◌ {A = ℕ} 0 1 = cc in omega arith)
plain_of (writes v) x u w h k = (v, refl)
plain_of (updates v) x u w h k = absurd (let z : ◌≡◌ {A = ℕ} 0 1 = cc in omega arith)

module _ {p : Program} {s : State} {q t : ℕ} (f : Good p s) (n : q ≢ t) where
  push_local : (r : ThreadState) → next_line p q (thread_of s q) ≡ local r → (b : Access p (after_local s q r) t)
      → Allowed p (after_local s q r).graph t b.effect.action b.after → Pushed p q t s (after_local s q r) b
  unfolding after_local
  push_local r l b ok =
      record {
        first = before_local s n r b;
        allowed = ok;
        then = local_after s n r b l;
        same_thread = sym (other_thread s.threads q t r n);
        same_value = refl;
      }

  module _ (a : Access p s q) (newest : a.after ≡ []) (b : Access p (state_after a) t)
      (ok : Allowed p (state_after a).graph t b.effect.action b.after) (stale : Snoc b.after) where
    -- What is allowed after the step is allowed before it.
    allowed_earlier : (earlier rest : List Id) → order s.graph b.location ≡ b.before ++ b.picked ∷ earlier
        → b.after ≡ earlier ++ rest
        → Allowed p s.graph t b.effect.action earlier
    unfolding state_after graph_after starts_with_update
    allowed_earlier earlier rest split q' =
        record {
          unseen =
              λ v m h. ok.unseen v (subst⁻¹ (Member v) q' (Memᴰ.append_left rest m))
              (happens_seen_grows (addition_of f a) t h);
          unfollowed = λ w. go earlier split q' (ok.unfollowed w);
        }
      where
        go : (l : List Id) → order s.graph b.location ≡ b.before ++ b.picked ∷ l → b.after ≡ l ++ rest
            → starts_with_update (graph_after a) b.after ≡ false → starts_with_update s.graph l ≡ false
        go [] o e h = refl
        go (v ∷ vs) o e h =
            ap is_update
            (sym
            (listed_event_stays f.well_formed (addition_of f a) b.location v
            (subst⁻¹ (Member v) o (Memᴰ.append_right b.before (Member.tail (Member.head refl))))))
            ∙ sym (ap (starts_with_update (graph_after a)) e) ∙ h

    pushed : (earlier rest : List Id) (split : order s.graph b.location ≡ b.before ++ b.picked ∷ earlier)
        → b.after ≡ earlier ++ rest
        → Swap f a b n earlier split → Pushed p q t s (state_after a) b
    unfolding second
    pushed earlier rest split q' w =
        record {
          first = pulled f a b n earlier split;
          allowed = allowed_earlier earlier rest split q';
          then = access_step (second f a b n earlier split w) refl (sym (exchanged f a b n earlier split w));
          same_thread = sym (thread_unmoved f a b n);
          same_value =
              sym (value_unmoved f a b n
              (subst⁻¹ (Member b.picked) split (member_put_in b.before b.picked earlier)));
        }

    push_unwritten : a.location ≡ b.location → writing a.effect.action ≡ false → Pushed p q t s (state_after a) b
    push_unwritten k w =
        let split = split_unwritten f a newest b n k w in
        let rest = rest_unwritten f a newest b n w b.after in
        pushed b.after _ split rest (swap_here f a newest b n k b.after split rest (older stale))

    d : Addition s.graph
    d = addition_of f a

    -- The SC step put its event last: the access stands at an older write.
    push_written : a.location ≡ b.location → writing a.effect.action ≡ true → Pushed p q t s (state_after a) b
    unfolding state_after graph_after starts_with_update d
    push_written k w =
        ⊎_elim (λ e. absurd (split_not_nil stale.front stale.final [] (sym e.0 ∙ stale.whole)))
        (λ e. go e.0 e.1 e.2)
        (split_of_snoc b.before b.picked b.after (order s.graph a.location) (new_id d)
        (sym b.split ∙ ap (order (graph_after a)) (sym k) ∙ order-grown d newest w))
      where
        go : (earlier : List Id) → b.after ≡ earlier ++ new_id d ∷ []
            → b.before ++ b.picked ∷ earlier ≡ order s.graph a.location → Pushed p q t s (state_after a) b
        go earlier e o =
            pushed earlier _ split rest
            (swap_here f a newest b n k earlier split rest
            (same (empty_or_snoc earlier) (writing_cases b.effect.action)))
          where
            split : order s.graph b.location ≡ b.before ++ b.picked ∷ earlier
            split = ap (order s.graph) (sym k) ∙ sym o

            rest : b.after ≡ earlier ++ directly_after a.effect.action (next_id s.graph q) []
            rest = e ∙ ap (λ l. earlier ++ l) (sym (written a.effect.action (next_id s.graph q) [] w))

            no_update : earlier ≡ [] → writing b.effect.action ≡ true
                → is_update
                (some (event_of a.effect.action a.location (value_of s.graph a.picked) a.picked))
                ≡ false
            no_update z w' =
                ap is_update (sym (new_there d))
                ∙ sym (ap (starts_with_update (graph_after a)) (e ∙ ap (λ l. l ++ new_id d ∷ []) z)) ∙ ok.unfollowed w'

            same : (earlier ≡ []) ⊎ Snoc earlier → (writing b.effect.action ≡ true)
                ⊎ (writing b.effect.action ≡ false) → SameThere f a newest b n earlier
            same (inr r) w' = older r
            same (inl z) (inr w') = unwritten w'
            same (inl z) (inl w') =
                let v = plain_of a.effect.action a.location _ a.picked w (no_update z w') in plain v.0
                v.1

    push_access : Pushed p q t s (state_after a) b
    push_access = by_location (ℕ_discrete a.location b.location)
      where
        by_location : Dec (a.location ≡ b.location) → Pushed p q t s (state_after a) b
        by_location (yes k) = ⊎_elim (push_written k) (push_unwritten k) (writing_cases a.effect.action)
        by_location (no k) =
            let split = split_elsewhere f a newest b n k in
            pushed b.after [] split (sym (append-nil b.after)) (swap_elsewhere f a newest b n k)

  pub push : {s' : State} → ScStep p q s s' → (b : Access p s' t)
      → Allowed p s'.graph t b.effect.action b.after → Snoc b.after
      → Pushed p q t s s' b
  push (local_step r l e) =
      subst⁻¹
      (λ (c : State). (b : Access p c t) → Allowed p c.graph t b.effect.action b.after → Snoc b.after
      → Pushed p q t s c b) e
      (λ b ok stale. push_local r l b ok)
  push (access_step a newest e) =
      subst⁻¹
      (λ (c : State). (b : Access p c t) → Allowed p c.graph t b.effect.action b.after → Snoc b.after
      → Pushed p q t s c b) e
      (λ b ok stale. push_access a newest b ok stale)
