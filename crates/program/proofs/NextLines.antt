-- What the documents say of next lines in so many words, as facts about the definition.
use Prim.Native.Nat.{ℕ, ◌≤◌}
use mathlib.Core.Path.{◌≡◌, refl}
use mathlib.Core.Option.{Option, none, some, map}
use lib.ListN.{length}
use borrow.Author.Tests.{eq-eqb, ne_eqb}
use Rattle.lists.proofs.Places.{place_past_end}
use Rattle.program.specs.Program.{Operand, constant, Program, lines_of, fadd, cas, wait, bcas, jump, fence, fence_location}
use Rattle.program.specs.Thread.{ThreadState, operand, onward, load, goto, reads, updates, Effect}
use Rattle.program.specs.Thread.{NextLine, ended, local, access, does, does_at, next_line}

-- "a thread at its line n has none"
pub no_line_at_the_end : (p : Program) (t : ℕ) (s : ThreadState) → length (lines_of p t) ≤ s.line → next_line p t s ≡ ended
unfolding next_line does_at
no_line_at_the_end p t s h = rw (place_past_end (lines_of p t) s.line h)

-- What an access does when it picks a write of value u.
unfoldable pub effect_at : NextLine → ℕ → Option Effect
effect_at ended u = none
effect_at (local q) u = none
effect_at (access x effects) u = effects u

module _ (K L r x : ℕ) (a b : Operand) (s : ThreadState) (u : ℕ) where
  -- "A failed CAS is a plain read."
  pub failed_cas_reads : (u ≡ operand s a → ⊥)
      → effect_at (does K L (cas r x a b) s) u ≡ some (record { action = reads; after = load s r u })
  unfolding does effect_at
  failed_cas_reads h = rw (ne_eqb u (operand s a) h)

  pub cas_updates : u ≡ operand s a
      → effect_at (does K L (cas r x a b) s) u ≡ some (record { action = updates (operand s b); after = load s r u })
  unfolding does effect_at
  cas_updates h = rw (eq-eqb u (operand s a) h)

  -- "Ops 9 and 10 have a step only with a w of value A."
  pub wait_has_no_other_step : (u ≡ operand s a → ⊥) → effect_at (does K L (wait x a) s) u ≡ none
  unfolding does effect_at
  wait_has_no_other_step h = rw (ne_eqb u (operand s a) h)

  pub blocking_cas_has_no_other_step : (u ≡ operand s a → ⊥) → effect_at (does K L (bcas x a b) s) u ≡ none
  unfolding does effect_at
  blocking_cas_has_no_other_step h = rw (ne_eqb u (operand s a) h)

-- "op 4 with A not 0 goes to its target, and every other of them goes on to the next line"
pub jump_goes : (K L target : ℕ) (a : Operand) (s : ThreadState) → (operand s a ≡ 0 → ⊥)
    → does K L (jump target a) s ≡ local (goto s target)
unfolding does
jump_goes K L target a s h = rw (ne_eqb (operand s a) 0 h)

-- "Op 11 .. changes no register. It is FADD of 0 on a location of its own": what it does there, whatever it finds, is what
-- a FADD of 0 would do, and the thread goes on to the next line.
pub fence_is_fadd_of_zero : (K L r : ℕ) (s : ThreadState) (u : ℕ)
    → effect_at (does K L fence s) u
    ≡ map
    (λ (e : Effect). record { action = e.action; after = onward s })
    (effect_at (does K L (fadd r (fence_location L) (constant 0)) s) u)
unfolding does effect_at operand
fence_is_fadd_of_zero K L r s u = refl
