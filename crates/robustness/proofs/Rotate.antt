-- An SC run to a state can be rearranged so that its last step is by a thread that has seen a given newest write.
use mathlib.Core.Path.{◌≡◌, refl, sym, ap, ◌∙◌, subst, subst⁻¹}
use mathlib.Core.Bool.{true, false}
use mathlib.Core.List.{List, [], ◌∷◌, ◌++◌}
use mathlib.Core.Logic.{◌⊎◌, inl, inr, ⊎_elim, ◌≢◌}
use Prim.Native.Nat.{ℕ, zero, suc}
use native.Mathlib.Omega.{arith}
use native.Mathlib.Decide.{ℕ_discrete}
use lib.ListN.{length, length-append}
use Rattle.relations.specs.Closure.{edge, IsOrBefore}
use Rattle.relations.proofs.Laws.{before_joins}
use Rattle.lists.proofs.Ends.{same_last, regroup_snoc}
use Rattle.program.specs.Thread.{writing}
use Rattle.program.specs.Program.{Program}
use Rattle.model.specs.Graph.{Id, Graph, order, thread_events}
use Rattle.model.specs.Order.{ScEdge, ScOrder}
use Rattle.model.specs.Run.{State, start_state, Access, graph_after, state_after, after_local, local_step, access_step}
use Rattle.model.specs.Run.{ScStep, ScRun, no_step, and_step}
use Rattle.model.proofs.Growth.{Addition, new_id, grown, up_to_picked, OrderAfter, unchanged, put_in, order_after}
use Rattle.model.proofs.Growth.{writing_cases, sc_order_grows, new_is_own}
use Rattle.model.proofs.Start.{start_orders}
use Rattle.model.proofs.Reachable.{Good, addition_of, start_good, step_good, access_good}
use Rattle.model.proofs.Decidable.{dec_sc_reaches}
use Rattle.robustness.proofs.Seen.{Seen, step_seen_grows, new_is_seen, seen_before_new, conflict_after_write}
use Rattle.robustness.proofs.Seen.{conflict_after_read}
use Rattle.robustness.proofs.Diamond.{Swapped, swap_local, swap_before_local, swap_other_location, swap_reads}

-- An SC run of n steps.
pub data Steps (p : Program) : ℕ → State → Type 0 where
  none : Steps p zero (start_state p)
  more : {n t : ℕ} {s s' : State} → Steps p n s → ScStep p t s s' → Steps p (suc n) s'

pub steps_good : {p : Program} {n : ℕ} {s : State} → Steps p n s → Good p s
steps_good {p} none = start_good p
steps_good (more r k) = step_good (steps_good r) k

pub run_of_steps : {p : Program} {n : ℕ} {s : State} → Steps p n s → (schedule : List ℕ) × ScRun p schedule s
run_of_steps none = ([], no_step)
run_of_steps (more {t = t} r k) = let h = run_of_steps r in (h.0 ++ t ∷ [], and_step h.1 k)

-- An access that conflicts with the one before it has seen what that one's thread had seen.
module _ {g : Graph} (d : Addition g) (e : Addition (grown d)) {v : Id} (joined : ScEdge (grown e) (new_id d) (new_id e))
    (before : IsOrBefore (ScOrder (grown d)) v (new_id d)) where
  seen_through : Seen (grown e) e.thread v
  seen_through =
      record {
        target = new_id e;
        listed = new_is_own e;
        way = inr (before_joins (⊎_elim inl (λ w. inr (sc_order_grows e w)) before) (edge joined));
      }

module _ {p : Program} {s s'' : State} {q t : ℕ} {v : Id} (f : Good p s) (n : q ≢ t)
    (unseen : Seen s''.graph t v → ⊥) where
  swap_accesses : (a : Access p s q) → a.after ≡ [] → Seen (state_after a).graph q v
      → (b : Access p (state_after a) t) → b.after ≡ [] → s'' ≡ state_after b → Swapped p q t s s''
  unfolding state_after graph_after
  swap_accesses a newest seen b last e = by_location (ℕ_discrete a.location b.location)
    where
      d : Addition s.graph
      d = addition_of f a

      d' : Addition (graph_after a)
      d' = addition_of (access_good f a) b

      conflict : ScEdge (grown d') (new_id d) (new_id d') → ⊥
      conflict h =
          unseen
          (subst⁻¹ (λ (c : State). Seen c.graph t v) e
          (seen_through d d' h (seen_before_new d seen)))

      by_reads : a.location ≡ b.location
          → (writing a.effect.action ≡ true) ⊎ (writing a.effect.action ≡ false)
          → (writing b.effect.action ≡ true) ⊎ (writing b.effect.action ≡ false) → Swapped p q t s s''
      by_reads k (inl w) w' = absurd (conflict (conflict_after_write d d' newest last n k w))
      by_reads k (inr w) (inl w') = absurd (conflict (conflict_after_read d d' newest last n k w w'))
      by_reads k (inr w) (inr w') = swap_reads f n a newest b last e k w w'

      by_location : Dec (a.location ≡ b.location) → Swapped p q t s s''
      by_location (yes k) = by_reads k (writing_cases a.effect.action) (writing_cases b.effect.action)
      by_location (no k) = swap_other_location f n a newest b last e k

  swap_access : (a : Access p s q) → a.after ≡ [] → Seen (state_after a).graph q v → ScStep p t (state_after a) s''
      → Swapped p q t s s''
  swap_access a newest seen (local_step r l e) = swap_before_local f n a newest r l e
  swap_access a newest seen (access_step b last e) = swap_accesses a newest seen b last e

  pub swap_last : {s' : State} → ScStep p q s s' → Seen s'.graph q v → ScStep p t s' s'' → Swapped p q t s s''
  swap_last (local_step r l e) seen k = swap_local f n r l (subst (λ c. ScStep p t c s'') e k)
  swap_last (access_step a newest e) seen k =
      swap_access a newest (subst (λ (c : State). Seen c.graph q v) e seen) (subst (λ c. ScStep p t c s'') e k)

-- An SC run of n steps to s whose last step is by a thread that has seen v.
pub record LastSeen (p : Program) (n : ℕ) (s : State) (v : Id) : Type 0 where
  pub fewer : ℕ
  pub count : n ≡ suc fewer
  pub before : State
  pub steps : Steps p fewer before
  pub thread : ℕ
  pub step : ScStep p thread before s
  pub seen : Seen s.graph thread v

-- A step leaves a location's order, or its own event is the newest write there.
order_or_new : {p : Program} {s s' : State} {t : ℕ} → Good p s → ScStep p t s s' → (x : ℕ) (l : List Id) (v : Id)
    → order s'.graph x ≡ l ++ v ∷ [] → (order s.graph x ≡ l ++ v ∷ []) ⊎ Seen s'.graph t v
unfolding after_local state_after graph_after
order_or_new f (local_step r k e) x l v o = inl (sym (ap (λ (c : State). order c.graph x) e) ∙ o)
order_or_new {s = s} {s' = s'} {t = t} f (access_step a newest e) x l v o = go (order_after d x)
  where
    d : Addition s.graph
    d = addition_of f a

    o' : order (grown d) x ≡ l ++ v ∷ []
    o' = sym (ap (λ (c : State). order c.graph x) e) ∙ o

    go : OrderAfter d x → (order s.graph x ≡ l ++ v ∷ []) ⊎ Seen s'.graph t v
    go (unchanged q) = inl (sym q ∙ o')
    go (put_in q w was now) =
        inr
        (subst⁻¹ (λ (c : State). Seen c.graph t v) e
        (subst (Seen (grown d) t)
        (same_last (up_to_picked d) l (new_id d) v (ap (λ m. up_to_picked d ++ new_id d ∷ m) (sym newest) ∙ sym now ∙ o')).1
        (new_is_seen d)))

rotate_step : {p : Program} {n : ℕ} {s s'' : State} {t : ℕ} {v : Id} → Steps p n s → ScStep p t s s''
    → (Seen s''.graph t v → ⊥)
    → LastSeen p n s v → LastSeen p (suc n) s'' v
rotate_step {p} {n} {s} {s''} {t} {v} r k unseen h =
    record {
      fewer = suc h.fewer;
      count = ap suc h.count;
      before = w.middle;
      steps = more h.steps w.first;
      thread = h.thread;
      step = w.then;
      seen = seen;
    }
  where
    seen : Seen s''.graph h.thread v
    seen = step_seen_grows (steps_good r) k h.thread h.seen

    w : Swapped p h.thread t h.before s''
    w =
        swap_last (steps_good h.steps) (λ q. unseen (subst (λ u. Seen s''.graph u v) q seen)) unseen h.step
        h.seen k

not_at_start : (p : Program) (x : ℕ) (l : List Id) (w : Id) (m : List Id) (v : Id)
    → order (start_state p).graph x ≡ l ++ w ∷ (m ++ v ∷ []) → ⊥
unfolding start_state
not_at_start p x l w m v o =
    ⊎_elim
    (λ q. omega (arith, ap length (sym q.1 ∙ o), length-append l (w ∷ (m ++ v ∷ [])), length-append m (v ∷ [])))
    (λ q. omega (arith, ap length (sym q ∙ o), length-append l (w ∷ (m ++ v ∷ [])))) (start_orders p x)

-- For the newest write v of a location that has another before it.
pub rotate : {p : Program} {n : ℕ} {s : State} → Steps p n s → (x : ℕ) (l : List Id) (w : Id) (m : List Id) (v : Id)
    → order s.graph x ≡ l ++ w ∷ (m ++ v ∷ []) → LastSeen p n s v
rotate {p} none x l w m v o = absurd (not_at_start p x l w m v o)
rotate {p} (more {n = n} {t = t} {s = s} {s' = s''} r k) x l w m v o =
    go (λ q. rotate r x l w m v q) (dec_sc_reaches s''.graph (thread_events s''.graph t) v)
  where
    go : (order s.graph x ≡ l ++ w ∷ (m ++ v ∷ []) → LastSeen p n s v) → Dec (Seen s''.graph t v)
        → LastSeen p (suc n) s'' v
    go rest (yes h) = record { fewer = n; count = refl; before = s; steps = r; thread = t; step = k; seen = h }
    go rest (no h) =
        rotate_step r k h
        (rest
        (⊎_elim (λ q. q ∙ sym (regroup_snoc l w m v)) (λ q. absurd (h q))
        (order_or_new (steps_good r) k x (l ++ w ∷ m) v (o ∙ regroup_snoc l w m v))))
