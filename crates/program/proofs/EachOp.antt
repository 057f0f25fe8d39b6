-- Each op of document 01's table, and the fence, computed once, with three values and nine locations, the last of which is
-- the fence's, at line 4 with registers 1, 2, 0, 0.
use Prim.Native.Nat.{ℕ}
use mathlib.Core.Path.{◌≡◌, refl}
use mathlib.Core.List.{[], ◌∷◌}
use mathlib.Core.Option.{some}
use Rattle.program.specs.Program.{Line, constant, register, fence_location}
use Rattle.program.specs.Program.{sum, equal, less, jump, write, read, fadd, wait, bcas, fence}
use Rattle.program.specs.Thread.{ThreadState, operand, reads, writes, updates, NextLine, local, access, does}
use Rattle.program.proofs.NextLines.{effect_at}

abbrev at : (line a b c d : ℕ) → ThreadState
at line a b c d = record { line = line; registers = a ∷ b ∷ c ∷ d ∷ [] }

abbrev here : Line → NextLine
here l = does 3 9 l (at 4 1 2 0 0)

sums : here (sum 0 (register 0) (register 1)) ≡ local (at 5 0 2 0 0)
unfolding does operand
sums = refl

equals : here (equal 3 (register 0) (constant 1)) ≡ local (at 5 1 2 0 1)
unfolding does operand
equals = refl

differs : here (equal 0 (register 0) (register 1)) ≡ local (at 5 0 2 0 0)
unfolding does operand
differs = refl

is_less : here (less 3 (register 0) (register 1)) ≡ local (at 5 1 2 0 1)
unfolding does operand
is_less = refl

not_less : here (less 0 (register 1) (register 0)) ≡ local (at 5 0 2 0 0)
unfolding does operand
not_less = refl

goes_on : here (jump 0 (register 2)) ≡ local (at 5 1 2 0 0)
unfolding does operand
goes_on = refl

adds : effect_at (here (fadd 3 7 (register 0))) 2 ≡ some (record { action = updates 0; after = at 5 1 2 0 2 })
unfolding does operand effect_at
adds = refl

blocking_writes : effect_at (here (bcas 7 (register 0) (register 1))) 1
    ≡ some (record { action = updates 2; after = at 5 1 2 0 0 })
unfolding does operand effect_at
blocking_writes = refl

loads : effect_at (here (read 2 7)) 2 ≡ some (record { action = reads; after = at 5 1 2 2 0 })
unfolding does effect_at
loads = refl

stores : effect_at (here (write 7 (register 1))) 0 ≡ some (record { action = writes 2; after = at 5 1 2 0 0 })
unfolding does operand effect_at
stores = refl

waits : effect_at (here (wait 7 (register 0))) 1 ≡ some (record { action = reads; after = at 5 1 2 0 0 })
unfolding does operand effect_at
waits = refl

-- A fence writes what it finds, at the last location, and leaves the registers.
fences : effect_at (here fence) 2 ≡ some (record { action = updates 2; after = at 5 1 2 0 0 })
unfolding does effect_at
fences = refl

at_the_last : here fence ≡ access 8 (effect_at (here fence))
unfolding does effect_at fence_location
at_the_last = refl
