-- The definitions at work on the case SB of document 01: after the steps of threads 1, 1, 2 the second thread's read
-- of x has a witness.
use mathlib.Core.Path.{◌≡◌, refl, subst, subst₂}
use mathlib.Core.Logic.{inl, inr}
use mathlib.Core.List.Memᴰ
use mathlib.Core.List.{[], ◌∷◌, Memᴰ as Member}
use mathlib.Core.Option.{some}
use Prim.Native.Nat.{ℕ}
use native.Mathlib.Omega.{arith}
use Rattle.relations.proofs.Laws.{last_edge}
use Rattle.relations.specs.Closure.{IsOrBefore, edge, further, here, Reaches}
use Rattle.program.specs.Program.{Program, constant, write, read}
use Rattle.program.specs.Thread.{ThreadState, load, reads, writes, next_line, does_at, does, operand, kind_of}
use Rattle.program.specs.declared.Kind.TheVariants.{Read}
use Rattle.program.specs.Thread.{writing}
use Rattle.model.specs.Graph.{Id, start, event, start_graph, event_at, below, thread_events, value_written, source_of}
use Rattle.model.specs.Graph.{event_of, directly_after, extend}
use Rattle.model.specs.Order.{HappensEdge, HappensBefore, starting, within, thread_order, reads_from, at, happens_before}
use Rattle.model.specs.Order.{from_read, ScOrder}
use Rattle.model.specs.Run.{start_state, Access, graph_after, state_after, access_step, no_step, and_step, ScRun}
use Rattle.model.specs.Witness.{Witness}
use Rattle.robustness.specs.Robust.{NotRobust}
use Rattle.robustness.proofs.NotRobust.{witness_not_robust}
use Rattle.model.proofs.StartsFirst.{nothing_happens_before_start}

-- "SB: x := 1; read y ‖ y := 1; read x; K = 2."
pub sb : Program
sb =
    record {
      threads = (write 0 (constant 1) ∷ read 0 1 ∷ []) ∷ (write 1 (constant 1) ∷ read 0 0 ∷ []) ∷ [];
      locations = 2;
      values = 2;
    }

at_line : ℕ → ThreadState
at_line n = record { line = n; registers = 0 ∷ 0 ∷ 0 ∷ 0 ∷ [] }

-- The states after the three steps, and the access that the second thread's read then makes with the starting write.
writes_x : Access sb (start_state sb) 0
unfolding sb at_line start_state start_graph below next_line does_at does operand event_at value_written
writes_x =
    record {
      location = 0;
      effects = λ u. some (record { action = writes 1; after = at_line 1 });
      line = refl;
      before = [];
      picked = start 0;
      after = [];
      split = refl;
      effect = record { action = writes 1; after = at_line 1 };
      allows = refl;
    }

reads_y : Access sb (state_after writes_x) 0
unfolding writes_x state_after graph_after extend event_of directly_after
reads_y =
    record {
      location = 1;
      effects = λ u. some (record { action = reads; after = load (at_line 1) 0 u });
      line = refl;
      before = [];
      picked = start 1;
      after = [];
      split = refl;
      effect = record { action = reads; after = at_line 2 };
      allows = refl;
    }

writes_y : Access sb (state_after reads_y) 1
unfolding reads_y
writes_y =
    record {
      location = 1;
      effects = λ u. some (record { action = writes 1; after = at_line 1 });
      line = refl;
      before = [];
      picked = start 1;
      after = [];
      split = refl;
      effect = record { action = writes 1; after = at_line 1 };
      allows = refl;
    }

reads_x : Access sb (state_after writes_y) 1
unfolding writes_y
reads_x =
    record {
      location = 0;
      effects = λ u. some (record { action = reads; after = load (at_line 1) 0 u });
      line = refl;
      before = [];
      picked = start 0;
      after = event 0 0 ∷ [];
      split = refl;
      effect = record { action = reads; after = at_line 2 };
      allows = refl;
    }

run : ScRun sb (0 ∷ 0 ∷ 1 ∷ []) (state_after writes_y)
unfolding writes_y
run =
    and_step (and_step (and_step no_step (access_step writes_x refl refl)) (access_step reads_y refl refl))
    (access_step writes_y refl refl)

-- The write of x, then the read of y, then the write of y that it did not see.
x_before_y : ScOrder (state_after writes_y).graph (event 0 0) (event 1 0)
unfolding writes_y source_of
x_before_y =
    further (edge (happens_before (edge (thread_order (within {t = 0} {i = 0} {j = 1} (omega arith) (omega arith))))))
    (from_read
    (record {
      source = start 1;
      read = refl;
      later = at 1 (here refl (Member.head refl));
      other = λ q. let z : ◌≡◌ {A = ℕ} 0 1 = cc in omega arith;
    }))

-- Only starting writes happen before the write of y, and nothing before those.
into_y : {a b : Id} → HappensEdge (state_after writes_y).graph a b → b ≡ event 1 0 → (x : ℕ) × (a ≡ start x)
unfolding writes_y source_of
into_y (thread_order (starting {x = x} l h)) q = (x, refl)
into_y (thread_order (within {t = t} {i = i} {j = j} l h)) q = absurd (let z : j ≡ 0 = cc in omega arith)
into_y {a} {b} (reads_from h) q =
    absurd
    (let h' : source_of (event_at (state_after writes_y).graph (event 1 0)) ≡ some a = subst
    (λ c. source_of (event_at (state_after writes_y).graph c) ≡ some a) q h in
    let z : ◌≡◌ {A = ℕ} 0 1 = cc h' in
    omega arith)

x_not_before_y : HappensBefore (state_after writes_y).graph (event 0 0) (event 1 0) → ⊥
x_not_before_y h = go e.2
  where
    e : (b : Id) × HappensEdge (state_after writes_y).graph b (event 1 0) × IsOrBefore
        (HappensBefore (state_after writes_y).graph) (event 0 0) b
    e = last_edge h

    r : (x : ℕ) × (e.0 ≡ start x)
    r = into_y e.1 refl

    go : IsOrBefore (HappensBefore (state_after writes_y).graph) (event 0 0) e.0 → ⊥
    go (inl q) = let z : ◌≡◌ {A = ℕ} 0 1 = cc r.1 in omega arith
    go (inr w) =
        nothing_happens_before_start r.0 (subst (HappensBefore (state_after writes_y).graph (event 0 0)) r.1 w)

-- The second thread has not seen the write of x.
x_unseen : (v : Id) → Member v (event 0 0 ∷ [])
    → Reaches (HappensBefore (state_after writes_y).graph) (thread_events (state_after writes_y).graph 1) v → ⊥
unfolding writes_y thread_events
x_unseen v m h = go h.way
  where
    is_x : v ≡ event 0 0
    is_x = Memᴰ.eq_of_singleton m

    is_y : h.target ≡ event 1 0
    is_y = Memᴰ.eq_of_singleton h.listed

    go : IsOrBefore (HappensBefore (state_after writes_y).graph) v h.target → ⊥
    go (inl q) = let k : event 0 0 ≡ event 1 0 = cc (is_x, is_y) in let z : ◌≡◌ {A = ℕ} 0 1 = cc in omega arith
    go (inr w) = x_not_before_y (subst₂ (HappensBefore (state_after writes_y).graph) is_x is_y w)

pub sb_not_robust : NotRobust sb (0 ∷ 0 ∷ 1 ∷ []) 1 Read 0 0
unfolding writes_y reads_x thread_events writing kind_of
sb_not_robust = witness_not_robust run witness
  where
    witness : Witness sb (state_after writes_y) 1 Read 0 0
    witness =
        record {
          access = reads_x;
          allowed =
              record { unseen = x_unseen; unfollowed = λ w. absurd (let z : ◌≡◌ {A = ℕ} 0 1 = cc in omega arith) };
          stale = record { between = []; newest = event 0 0; last = refl };
          event = event 1 0;
          own = Member.head refl;
          known = x_before_y;
          of_kind = refl;
          of_location = refl;
          of_value = refl;
        }
