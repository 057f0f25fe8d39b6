-- What ends the search at a situation is the witness that it shows of the lowest thread, with that thread's smallest
-- stale value.
use mathlib.Core.Path.{◌≡◌, refl, sym, ap, ◌∙◌, subst, subst⁻¹, subst₂}
use mathlib.Core.Bool.{Bool, true, false, cond, true≢false}
use mathlib.Core.Option.{Option, none, some}
use mathlib.Core.Logic.{◌⊎◌, inl, inr, ⊎_elim}
use Prim.Native.Nat.{ℕ, zero, suc, ◌+◌, ◌<◌, ◌≤◌}
use native.Mathlib.Omega.{arith}
use native.Mathlib.Decide.{dec_lt}
use lib.ListN.{length, get_or}
use Rattle.sets.specs.Sets.{has, is_empty, set_of, smallest}
use Rattle.sets.proofs.Bounds.{set_of_below}
use Rattle.sets.proofs.Empty.{is_empty_set_of_none}
use Rattle.sets.proofs.Smallest.{smallest_least, smallest_below, smallest_set_of_member}
use Rattle.sets.proofs.SetOf.{has_set_of_below}
use Rattle.program.specs.Program.{Program}
use Rattle.program.specs.Thread.{start_thread, Effect, NextLine, ended, local, access, next_line}
use Rattle.program.specs.declared.Kind.{Kind}
use Rattle.rules.specs.Situation.{Situation}
use Rattle.rules.specs.declared.Ending.{Ending}
use Rattle.rules.specs.Update.{row_of}
use Rattle.rules.specs.Test.{may_use, usable, kind_with, ending_with, ending_by, or_else, ending_from, ending_on}
use Rattle.situations.proofs.Named.{NotAfter}
use Rattle.situations.proofs.TestWitness.{WitnessOn}

-- An outcome for the threads from one number up to another: nothing where they have no witness, else the first.
pub data Outcome (p : Program) (q : Situation) (from upto : ℕ) : Option Ending → Type 0 where
  nothing : ((t : ℕ) (k : Kind) (x u : ℕ) → from ≤ t → t < upto → WitnessOn p q t k x u → ⊥)
      → Outcome p q from upto none
  first : (e : Ending) → from ≤ e.thread → e.thread < upto
      → WitnessOn p q e.thread e.kind e.location e.value
      → ((t : ℕ) (k : Kind) (x u : ℕ) → from ≤ t → t < upto → WitnessOn p q t k x u
      → NotAfter e (record { thread = t; kind = k; location = x; value = u }))
      → Outcome p q from upto (some e)

-- The thread and the stale value decide the kind and the location.
same_location : {p : Program} {q : Situation} {t : ℕ} {k k' : Kind} {x x' u u' : ℕ} → WitnessOn p q t k x u
    → WitnessOn p q t k' x' u' → x ≡ x'
same_location w v = cc (w.line, v.line)

same_kind : {p : Program} {q : Situation} {t : ℕ} {k k' : Kind} {x x' u : ℕ} → WitnessOn p q t k x u
    → WitnessOn p q t k' x' u → k ≡ k'
same_kind w v =
    let f : w.effects ≡ v.effects = cc (w.line, v.line) in
    let e : w.effect ≡ v.effect = cc (w.allows, v.allows, f) in
    cc (w.of_kind, v.of_kind, e)

-- A thread is below a number or not.
before_or_after : (t n : ℕ) → (t < n) ⊎ (n ≤ t)
before_or_after t n = go (dec_lt t n)
  where
    go : Dec (t < n) → (t < n) ⊎ (n ≤ t)
    go (yes h) = inl h
    go (no h) = inr (omega arith)

module _ {p : Program} {q : Situation} where
  pub one_outcome : {from upto : ℕ} {o o' : Option Ending} → Outcome p q from upto o → Outcome p q from upto o' → o ≡ o'
  unfolding NotAfter
  one_outcome (nothing n) (nothing n') = refl
  one_outcome (nothing n) (first e a b w l) = absurd (n e.thread e.kind e.location e.value a b w)
  one_outcome (first e a b w l) (nothing n) = absurd (n e.thread e.kind e.location e.value a b w)
  one_outcome (first e a b w l) (first e' a' b' w' l') =
      same (l e'.thread e'.kind e'.location e'.value a' b' w')
      (l' e.thread e.kind e.location e.value a b w)
    where
      same : NotAfter e e' → NotAfter e' e → some e ≡ some e'
      same (inl h) (inl k) = absurd (omega arith)
      same (inl h) (inr k) = absurd (omega arith)
      same (inr h) (inl k) = absurd (omega arith)
      same (inr h) (inr k) =
          let v : e.value ≡ e'.value = omega arith in
          let w'' : WitnessOn p q e.thread e'.kind e'.location e.value = subst₂
          (λ i u. WitnessOn p q i e'.kind e'.location u) (sym h.0) (sym v) w' in
          λ i.
          some (record { thread = h.0 i; kind = same_kind w w'' i; location = same_location w w'' i; value = v i })

  outcomes_join : {from mid upto : ℕ} {o o' : Option Ending} → from ≤ mid → mid ≤ upto
      → Outcome p q from mid o → Outcome p q mid upto o' → Outcome p q from upto (or_else o o')
  unfolding or_else NotAfter
  outcomes_join {mid = mid} h h' (nothing n) (nothing n') =
      nothing (λ t k x u a b w. ⊎_elim (λ c. n t k x u a c w) (λ c. n' t k x u c b w) (before_or_after t mid))
  outcomes_join {mid = mid} h h' (nothing n) (first e a b w l) =
      first e (omega arith) b w
      (λ t k x u a' b' w'.
      ⊎_elim (λ c. absurd (n t k x u a' c w')) (λ c. l t k x u c b' w') (before_or_after t mid))
  outcomes_join {mid = mid} h h' (first e a b w l) c =
      first e a (omega arith) w
      (λ t k x u a' b' w'. ⊎_elim (λ m. l t k x u a' m w') (λ m. inl (omega arith)) (before_or_after t mid))

-- One thread.
module _ (p : Program) (q : Situation) (t : ℕ) where
  one_nothing : ((k : Kind) (x u : ℕ) → WitnessOn p q t k x u → ⊥) → Outcome p q t (suc t) none
  one_nothing n =
      nothing (λ t' k x u a b w. let e : t' ≡ t = omega arith in n k x u (subst (λ i. WitnessOn p q i k x u) e w))

  one_first : (k : Kind) (x u : ℕ) → WitnessOn p q t k x u
      → ((k' : Kind) (x' u' : ℕ) → WitnessOn p q t k' x' u' → u ≤ u')
      → Outcome p q t (suc t) (some (record { thread = t; kind = k; location = x; value = u }))
  unfolding NotAfter
  one_first k x u w l =
      first (record { thread = t; kind = k; location = x; value = u }) (omega arith) (omega arith) w
      (λ t' k' x' u' a b w'.
      let e : t ≡ t' = omega arith in
      inr (e, l k' x' u' (subst⁻¹ (λ i. WitnessOn p q i k' x' u') e w')))

  -- Its next line is an access.
  module _ (x : ℕ) (effects : ℕ → Option Effect)
      (line : next_line p t (get_or q.threads t start_thread) ≡ access x effects) where
    abbrev allowing : Option Effect → (y u : ℕ) → Bool
    allowing o y u =
        may_use o (get_or (row_of q.readable_by_thread t) y 0) (get_or (row_of q.writable_by_thread t) y 0) u

    abbrev may : ℕ → Bool
    may u = allowing (effects u) x u

    -- What a witness of the thread says of this line.
    location_is : {k : Kind} {x' u : ℕ} → WitnessOn p q t k x' u → x' ≡ x
    location_is w = cc (w.line, line)

    may_use_lem : {k : Kind} {x' u : ℕ} → WitnessOn p q t k x' u → may u ≡ true
    may_use_lem {u = u} w =
        let f : effects ≡ w.effects = cc (w.line, line) in
        ap (λ o. allowing o x u) (ap (λ (h : ℕ → Option Effect). h u) f ∙ w.allows)
        ∙ subst (λ y. allowing (some w.effect) y u ≡ true) (location_is w) w.stale

    known_is : {k : Kind} {x' u : ℕ} → WitnessOn p q t k x' u → has (get_or q.known_to_thread t 0) x ≡ true
    known_is w = ap (has (get_or q.known_to_thread t 0)) (sym (location_is w)) ∙ w.known

    abbrev stales : ℕ
    stales = set_of p.values may

    abbrev least : ℕ
    least = smallest p.values stales

    -- The smallest value that may be used is that of a witness, and no witness has a smaller one.
    least_outcome : has (get_or q.known_to_thread t 0) x ≡ true → is_empty stales ≡ false
        → Outcome p q t (suc t)
        (some (record { thread = t; kind = kind_with (effects least); location = x; value = least }))
    unfolding kind_with may_use
    least_outcome known e = one_first (kind_with (effects least)) x least (shown (effects least) refl used) lowest
      where
        small : least < p.values
        small = smallest_below p.values (set_of_below p.values may) e

        used : may least ≡ true
        used = smallest_set_of_member p.values may small

        shown : (o : Option Effect) → effects least ≡ o → allowing o x least ≡ true
            → WitnessOn p q t (kind_with o) x least
        shown none r h = absurd (true≢false (sym h))
        shown (some f) r h =
            record {
              effects = effects;
              line = line;
              effect = f;
              allows = r;
              of_kind = refl;
              value = small;
              known = known;
              stale = h;
            }

        lowest : (k' : Kind) (x' u' : ℕ) → WitnessOn p q t k' x' u' → least ≤ u'
        lowest k' x' u' w =
            smallest_least p.values stales u' (has_set_of_below p.values may u' w.value ∙ may_use_lem w)

    access_outcome : Outcome p q t (suc t) (ending_by p t (access x effects) q)
    unfolding ending_by ending_with usable
    access_outcome = by_known (has (get_or q.known_to_thread t 0) x) refl
      where
        by_stale : has (get_or q.known_to_thread t 0) x ≡ true → (b : Bool) → is_empty stales ≡ b
            → Outcome p q t (suc t)
            (cond b none (some (record { thread = t; kind = kind_with (effects least); location = x; value = least })))
        by_stale h true e =
            one_nothing
            (λ k x' u w. true≢false
            (sym (may_use_lem w) ∙ is_empty_set_of_none p.values may e u w.value))
        by_stale h false e = least_outcome h e

        by_known : (b : Bool) → has (get_or q.known_to_thread t 0) x ≡ b
            → Outcome p q t (suc t) (cond b (ending_with p.values t x effects stales) none)
        by_known true h = by_stale h (is_empty stales) refl
        by_known false h = one_nothing (λ k x' u w. true≢false (sym (known_is w) ∙ h))

  thread_outcome : Outcome p q t (suc t) (ending_by p t (next_line p t (get_or q.threads t start_thread)) q)
  unfolding ending_by
  thread_outcome = go (next_line p t (get_or q.threads t start_thread)) refl
    where
      go : (l : NextLine) → next_line p t (get_or q.threads t start_thread) ≡ l
          → Outcome p q t (suc t) (ending_by p t l q)
      go ended e = one_nothing (λ k x u w. let z : ◌≡◌ {A = ℕ} 0 1 = cc w.line in omega arith)
      go (local r) e = one_nothing (λ k x u w. let z : ◌≡◌ {A = ℕ} 0 1 = cc w.line in omega arith)
      go (access x effects) e = access_outcome x effects e

threads_outcome : (p : Program) (q : Situation) (t count upto : ℕ) → t + count ≡ upto
    → Outcome p q t upto (ending_from p t count q)
unfolding ending_from
threads_outcome p q t zero upto e = nothing (λ t' k x u a b w. omega arith)
threads_outcome p q t (suc count) upto e =
    outcomes_join (omega arith) (omega arith) (thread_outcome p q t)
    (threads_outcome p q (suc t) count upto (omega arith))

pub ending_outcome : (p : Program) (q : Situation) → Outcome p q 0 (length p.threads) (ending_on p q)
unfolding ending_on
ending_outcome p q = threads_outcome p q 0 (length p.threads) (length p.threads) (omega arith)
