-- RB: a program without a witness in any SC-reachable state is robust.
use mathlib.Core.Path.{◌≡◌, refl, ap, ◌∙◌, subst, subst⁻¹}
use mathlib.Core.List.{List, [], ◌∷◌, ◌++◌, Memᴰ as Member}
use mathlib.Core.Logic.{inl, inr, ⊎_elim}
use Prim.Native.Nat.{ℕ, zero, suc}
use native.Mathlib.Omega.{arith}
use Rattle.relations.specs.Closure.{IsOrBefore}
use Rattle.lists.proofs.Ends.{Snoc, empty_or_snoc, member_put_in}
use Rattle.program.specs.Program.{Program}
use Rattle.program.specs.Thread.{kind_of}
use Rattle.model.specs.Graph.{value_of}
use Rattle.model.specs.Order.{ScOrder}
use Rattle.model.specs.Run.{State, thread_of, Access, state_after, Allowed, local_step, access_step, no_step, and_step}
use Rattle.model.specs.Run.{RaStep, RaRun}
use Rattle.model.specs.Witness.{NoWitness}
use Rattle.robustness.specs.Robust.{Robust}
use Rattle.robustness.proofs.Seen.{Seen}
use Rattle.robustness.proofs.Rotate.{Steps, none, more, steps_good, run_of_steps, LastSeen, rotate}
use Rattle.robustness.proofs.Push.{Pushed, push}

-- An SC run of one step more to the state after the access a; and the SC-reachable state at which that access was
-- made with a newest write of the same value.
pub record Claimed (p : Program) (n : ℕ) (s : State) (t : ℕ) (a : Access p s t) : Type 0 where
  pub steps : Steps p (suc n) (state_after a)
  pub origin : State
  pub count : ℕ
  pub reached : Steps p count origin
  pub made : Access p origin t
  pub made_newest : made.after ≡ []
  pub same_thread : thread_of origin t ≡ thread_of s t
  pub same_value : value_of origin.graph made.picked ≡ value_of s.graph a.picked

abbrev pub Claim : Program → ℕ → ℕ → Type 0
Claim p t n =
    (s : State) → Steps p n s → (a : Access p s t) → Allowed p s.graph t a.effect.action a.after
    → Claimed p n s t a

module _ {p : Program} (lacking : NoWitness p) {n : ℕ} {s : State} {t : ℕ} (run : Steps p n s) (a : Access p s t)
    (ok : Allowed p s.graph t a.effect.action a.after) where
  claim_newest : a.after ≡ [] → Claimed p n s t a
  claim_newest q =
      record {
        steps = more run (access_step a q refl);
        origin = s;
        count = n;
        reached = run;
        made = a;
        made_newest = q;
        same_thread = refl;
        same_value = refl;
      }

  -- A newest write that the thread has seen makes the access a witness.
  unseen : (k : Snoc a.after) → Seen s.graph t k.final → ⊥
  unseen k h = go h.way
    where
      go : IsOrBefore (ScOrder s.graph) k.final h.target → ⊥
      go (inl e) =
          ok.unseen k.final (subst⁻¹ (Member k.final) k.whole (member_put_in k.front k.final []))
          (record { target = h.target; listed = h.listed; way = inl e })
      go (inr w) =
          let r = run_of_steps run in
          lacking r.0 s t (kind_of a.effect.action) a.location (value_of s.graph a.picked) r.1
          (record {
            access = a;
            allowed = ok;
            stale = record { between = k.front; newest = k.final; last = k.whole };
            event = h.target;
            own = h.listed;
            known = w;
            of_kind = refl;
            of_location = refl;
            of_value = refl;
          })

  claim_stale : (k : Snoc a.after) → LastSeen p n s k.final → ((m : ℕ) → n ≡ suc m → Claim p t m)
      → Claimed p n s t a
  claim_stale k h earlier =
      record {
        steps = subst⁻¹ (λ m. Steps p (suc m) (state_after a)) h.count (more c.steps w.then);
        origin = c.origin;
        count = c.count;
        reached = c.reached;
        made = c.made;
        made_newest = c.made_newest;
        same_thread = c.same_thread ∙ w.same_thread;
        same_value = c.same_value ∙ w.same_value;
      }
    where
      w : Pushed p h.thread t h.before s a
      w =
          push (steps_good h.steps) (λ q. unseen k (subst (λ u. Seen s.graph u k.final) q h.seen))
          h.step a ok k

      c : Claimed p h.fewer h.before t w.first
      c = earlier h.fewer h.count h.before h.steps w.first w.allowed

  claim_step : ((m : ℕ) → n ≡ suc m → Claim p t m) → Claimed p n s t a
  claim_step earlier = ⊎_elim claim_newest (λ k. claim_stale k (last k) earlier) (empty_or_snoc a.after)
    where
      last : (k : Snoc a.after) → LastSeen p n s k.final
      last k =
          rotate run a.location a.before a.picked k.front k.final
          (a.split ∙ ap (λ l. a.before ++ a.picked ∷ l) k.whole)

pub claim : {p : Program} → NoWitness p → (t n : ℕ) → Claim p t n
claim lacking t zero s run a ok =
    claim_step lacking run a ok (λ m q. absurd (let z : ◌≡◌ {A = ℕ} 0 1 = omega arith in omega arith))
claim {p} lacking t (suc n) s run a ok =
    claim_step lacking run a ok
    (λ m q. let e : n ≡ m = omega arith in subst (Claim p t) e (λ s₀ r b k. claim lacking t n s₀ r b k))

pub ra_step_reached : {p : Program} → NoWitness p → {n t : ℕ} {s s' : State} → Steps p n s → RaStep p t s s'
    → Steps p (suc n) s'
ra_step_reached lacking r (local_step q l e) = more r (local_step q l e)
ra_step_reached {p} lacking {n} {t} {s} r (access_step a ok e) =
    subst⁻¹ (Steps p (suc n)) e (claim lacking t n s r a ok).steps

pub ra_run_reached : {p : Program} → NoWitness p → {schedule : List ℕ} {s : State} → RaRun p schedule s
    → (n : ℕ) × Steps p n s
ra_run_reached lacking no_step = (zero, none)
ra_run_reached lacking (and_step r k) =
    let h = ra_run_reached lacking r in (suc h.0, ra_step_reached lacking h.1 k)

-- RB.
pub no_witness_robust : (p : Program) → NoWitness p → Robust p
no_witness_robust p lacking schedule s run = run_of_steps (ra_run_reached lacking run).1
