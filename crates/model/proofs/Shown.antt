-- What a step shows, in the words of documents 01 and 02, whichever rule it is a step of.
use Prim.Native.Nat.{ℕ, ◌+◌, ◌%◌}
use native.Mathlib.Omega.{arith}
use mathlib.Core.Path.{◌≡◌, refl, sym, ap, ◌∙◌}
use mathlib.Core.Bool.{Bool, true, false, cond}
use mathlib.Core.Option.{Option, none, some, none-ne-some}
use lib.Dec.{eqb}
use borrow.Author.Tests.{eqb-true}
use Rattle.program.specs.Program.{Program, Operand, sum, equal, less, jump, write, read, fadd, cas, wait, bcas}
use Rattle.program.specs.Program.{fence, fence_location}
use Rattle.program.specs.Thread.{ThreadState, operand, onward, load, reads, writes, updates, Effect, next_line, does}
use Rattle.program.specs.Thread.{local, access}
use Rattle.program.specs.declared.Kind.TheVariants.{Read, Write, Update}
use Rattle.program.specs.declared.Label.TheVariants.{Local, Access as shows}
use Rattle.model.specs.Graph.{event_of, value_of}
use Rattle.model.specs.Run.{State, thread_of, Access, Rule, Step, local_step, access_step}
use Rattle.model.specs.Labels.{label_of, event_made, step_label}

-- "Ops 1 to 4 change that thread's state only": such a step is local.
local_line_shows_local : {p : Program} {rule : Rule} {t : ℕ} {s s' : State} (k : Step p rule t s s') {q : ThreadState}
    → next_line p t (thread_of s t) ≡ local q → step_label k ≡ Local
unfolding step_label
local_line_shows_local (local_step q l e) is = refl
local_line_shows_local (access_step a r e) is = absurd (let z : ◌≡◌ {A = ℕ} 0 1 = cc a.line in omega arith)

module _ {p : Program} {rule : Rule} {t : ℕ} {s s' : State} (K L : ℕ) (k : Step p rule t s s') where
  -- "L 0 0 for a local line": a jump, taken or not, and the sums and comparisons.
  pub jump_is_local : (target : ℕ) (a : Operand) → next_line p t (thread_of s t) ≡ does K L (jump target a) (thread_of s t)
      → step_label k ≡ Local
  unfolding does
  jump_is_local target a = local_line_shows_local k

  pub sum_is_local : (r : ℕ) (a b : Operand) → next_line p t (thread_of s t) ≡ does K L (sum r a b) (thread_of s t)
      → step_label k ≡ Local
  unfolding does
  sum_is_local r a b = local_line_shows_local k

  pub equal_is_local : (r : ℕ) (a b : Operand) → next_line p t (thread_of s t) ≡ does K L (equal r a b) (thread_of s t)
      → step_label k ≡ Local
  unfolding does
  equal_is_local r a b = local_line_shows_local k

  pub less_is_local : (r : ℕ) (a b : Operand) → next_line p t (thread_of s t) ≡ does K L (less r a b) (thread_of s t)
      → step_label k ≡ Local
  unfolding does
  less_is_local r a b = local_line_shows_local k

-- A step by an access shows the event that it makes.
module _ {p : Program} {s : State} {t : ℕ} (K L : ℕ) (m : Access p s t) where
  -- The value of the write that it picks.
  abbrev found : ℕ
  found = value_of s.graph m.picked

  abbrev state : ThreadState
  state = thread_of s t

  -- What its line does with that value is what it shows.
  shown_by_line : {x : ℕ} {effects : ℕ → Option Effect} {e : Effect} → next_line p t state ≡ access x effects
      → effects found ≡ some e → label_of (event_made m) ≡ label_of (event_of e.action x found m.picked)
  shown_by_line {x} {effects} {e} line allows =
      let at : m.location ≡ x = cc (m.line, line) in
      let same : m.effects ≡ effects = cc (m.line, line) in
      let does_it : m.effect ≡ e = cc (m.allows, allows, same) in
      λ i. label_of (event_of (does_it i).action (at i) found m.picked)

  -- "W .. with the value written".
  pub write_shows_its_value : (x : ℕ) (a : Operand) → next_line p t state ≡ does K L (write x a) state
      → label_of (event_made m) ≡ shows Write x (operand state a)
  unfolding does label_of event_of
  write_shows_its_value x a line = shown_by_line line refl

  -- "R with the value read".
  pub read_shows_what_it_read : (r x : ℕ) → next_line p t state ≡ does K L (read r x) state
      → label_of (event_made m) ≡ shows Read x found
  unfolding does label_of event_of
  read_shows_what_it_read r x line = shown_by_line line refl

  -- "add A modulo K": M with the sum.
  pub fadd_shows_the_sum : (r x : ℕ) (a : Operand) → next_line p t state ≡ does K L (fadd r x a) state
      → label_of (event_made m) ≡ shows Update x ((found + operand state a) % K)
  unfolding does label_of event_of
  fadd_shows_the_sum r x a line = shown_by_line line refl

  -- "FADD of 0 on a location of its own": M with what it found, modulo K.
  pub fence_shows_its_location : next_line p t state ≡ does K L fence state
      → label_of (event_made m) ≡ shows Update (fence_location L) ((found + 0) % K)
  unfolding does label_of event_of
  fence_shows_its_location line = shown_by_line line refl

  -- "A failed CAS is a plain read": R with the value found; else M with B.
  pub failed_cas_shows_what_it_found : (r x : ℕ) (a b : Operand) → next_line p t state ≡ does K L (cas r x a b) state
      → eqb found (operand state a) ≡ false → label_of (event_made m) ≡ shows Read x found
  unfolding does label_of event_of
  failed_cas_shows_what_it_found r x a b line other =
      shown_by_line line
      (ap
      (λ (q : Bool). some (record { action = cond q (updates (operand state b)) reads; after = load state r found }))
      other)

  pub cas_shows_what_it_wrote : (r x : ℕ) (a b : Operand) → next_line p t state ≡ does K L (cas r x a b) state
      → eqb found (operand state a) ≡ true → label_of (event_made m) ≡ shows Update x (operand state b)
  unfolding does label_of event_of
  cas_shows_what_it_wrote r x a b line same =
      shown_by_line line
      (ap
      (λ (q : Bool). some (record { action = cond q (updates (operand state b)) reads; after = load state r found }))
      same)

  -- "Ops 9 and 10 have a step only with a w of value A": a step of such a line has found it.
  waited : {x : ℕ} (a : Operand) (e : Effect)
      → next_line p t state ≡ access x (λ (u : ℕ). cond (eqb u (operand state a)) (some e) none)
      → eqb found (operand state a) ≡ true
  waited a e line = go (eqb found (operand state a)) refl
    where
      go : (b : Bool) → eqb found (operand state a) ≡ b → eqb found (operand state a) ≡ true
      go true is = is
      go false is =
          let same : m.effects ≡ (λ (u : ℕ). cond (eqb u (operand state a)) (some e) none) = cc (m.line, line) in
          absurd
          (none-ne-some m.effect
          (sym (ap (λ (b : Bool). cond b (some e) none) is) ∙ sym (ap (λ (f : ℕ → Option Effect). f found) same) ∙ m.allows))

  -- A wait shows R with its value, a blocking CAS M with B.
  pub wait_shows_its_value : (x : ℕ) (a : Operand) → next_line p t state ≡ does K L (wait x a) state
      → label_of (event_made m) ≡ shows Read x (operand state a)
  unfolding does label_of event_of
  wait_shows_its_value x a line =
      let e : Effect = record { action = reads; after = onward state } in
      let same = waited a e line in
      shown_by_line line (ap (λ (q : Bool). cond q (some e) none) same)
      ∙ ap (shows Read x) (eqb-true found (operand state a) same)

  pub bcas_shows_what_it_wrote : (x : ℕ) (a b : Operand) → next_line p t state ≡ does K L (bcas x a b) state
      → label_of (event_made m) ≡ shows Update x (operand state b)
  unfolding does label_of event_of
  bcas_shows_what_it_wrote x a b line =
      let e : Effect = record { action = updates (operand state b); after = onward state } in
      shown_by_line line (ap (λ (q : Bool). cond q (some e) none) (waited a e line))
