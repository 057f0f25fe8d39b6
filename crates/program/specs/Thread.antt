-- Thread states and what a thread's next line does: document 01, sections "Program bytes" and "Graphs", and document 02,
-- Point 5.
use Rattle.std.specs.Prelude.{ℕ, suc, ◌+◌, ◌%◌, Bool, true, false, cond, List, eqb, ltb, get_or, set, replicate}
use Rattle.std.proofs.Math.Option.{Option, none, some}
use Rattle.std.proofs.Math.ListN.{get_elem?}
use Rattle.limits.specs.Limits.{registers as register_count}
use Rattle.program.specs.Program.{Operand, constant, register, Line, Program, lines_of, fence_location}
use Rattle.program.specs.Program.{sum, equal, less, jump, write, read, fadd, cas, wait, bcas, fence}
use Rattle.program.specs.declared.Kind.{Kind}
use Rattle.program.specs.declared.Kind.TheVariants.{Read, Write, Update}

-- "A thread state is a thread's line and registers."
pub record ThreadState : Type 0 where
  pub line : ℕ
  pub registers : List ℕ

-- "Every thread starts at line 0 with its registers 0"
abbrev pub start_thread : ThreadState
start_thread = record { line = 0; registers = replicate register_count 0 }

-- "0 to K−1 is that constant, 128 to 131 is register 0 to 3"
unfoldable pub operand : ThreadState → Operand → ℕ
operand s (constant c) = c
operand s (register r) = get_or s.registers r 0

-- "the thread goes on to the next line"
abbrev pub onward : ThreadState → ThreadState
onward s = record { line = suc s.line; registers = s.registers }

-- The thread goes on to the next line, and its register r takes the value v.
abbrev pub load : ThreadState → ℕ → ℕ → ThreadState
load s r v = record { line = suc s.line; registers = set s.registers r v }

-- "goes to its target"
abbrev pub goto : ThreadState → ℕ → ThreadState
goto s target = record { line = target; registers = s.registers }

-- What an access does at its location: a read, a write of a value, or a read-modify-write that writes a value.
pub data Action : Type 0 where
  reads : Action
  writes : (value : ℕ) → Action
  updates : (value : ℕ) → Action

-- The kind of an action.
unfoldable pub kind_of : Action → Kind
kind_of reads = Read
kind_of (writes v) = Write
kind_of (updates v) = Update

-- An action writes.
unfoldable pub writing : Action → Bool
writing reads = false
writing (writes v) = true
writing (updates v) = true

-- What an access does, and the thread state after it.
pub record Effect : Type 0 where
  pub action : Action
  pub after : ThreadState

-- What a thread's next line does.
pub data NextLine : Type 0 where
  -- "a thread at its line n has none"
  ended : NextLine
  -- "Ops 1 to 4 change that thread's state only": the thread state after it.
  local : (after : ThreadState) → NextLine
  -- "Any other line makes one access": its location, and what it does by the value of the write w that it picks; none
  -- where the line has no step with such a w.
  access : (location : ℕ) (effect : ℕ → Option Effect) → NextLine

-- The line of each op, in a program with K values and L locations, the fence's among them. "Operands are evaluated before
-- reg changes."
unfoldable pub does : (K L : ℕ) → Line → ThreadState → NextLine
-- "reg := A + B modulo K"
does K L (sum r a b) s = local (load s r ((operand s a + operand s b) % K))
-- "1 if A = B else 0"
does K L (equal r a b) s = local (load s r (cond (eqb (operand s a) (operand s b)) 1 0))
-- "1 if A < B else 0"
does K L (less r a b) s = local (load s r (cond (ltb (operand s a) (operand s b)) 1 0))
-- "op 4 with A not 0 goes to its target, and every other of them goes on to the next line"
does K L (jump target a) s = local (cond (eqb (operand s a) 0) (onward s) (goto s target))
-- "write A"
does K L (write x a) s = access x (λ u. some (record { action = writes (operand s a); after = onward s }))
-- "read into reg"; "reg, where the line uses it, takes the value that w wrote"
does K L (read r x) s = access x (λ u. some (record { action = reads; after = load s r u }))
-- "FADD: add A modulo K, reg := old value"
does K L (fadd r x a) s = access x (λ u. some (record { action = updates ((u + operand s a) % K); after = load s r u }))
-- "CAS from A to B, reg := value found"; "A failed CAS is a plain read."
does K L (cas r x a b) s =
    access x
    (λ u. some (record { action = cond (eqb u (operand s a)) (updates (operand s b)) reads; after = load s r u }))
-- "wait until the value is A"; "Ops 9 and 10 have a step only with a w of value A."
does K L (wait x a) s =
    access x (λ u. cond (eqb u (operand s a)) (some (record { action = reads; after = onward s })) none)
-- "blocking CAS from A to B"
does K L (bcas x a b) s =
    access x (λ u. cond (eqb u (operand s a)) (some (record { action = updates (operand s b); after = onward s })) none)
-- "Op 11 .. changes no register. It is FADD of 0 on a location of its own"
does K L fence s =
    access (fence_location L) (λ u. some (record { action = updates ((u + 0) % K); after = onward s }))

-- What the line does, if there is one.
unfoldable pub does_at : (K L : ℕ) → Option Line → ThreadState → NextLine
does_at K L none s = ended
does_at K L (some l) s = does K L l s

-- "A step is one thread's next line, so a thread at its line n has none."
unfoldable pub next_line : Program → ℕ → ThreadState → NextLine
next_line p t s = does_at p.values p.locations (get_elem? (lines_of p t) s.line) s
