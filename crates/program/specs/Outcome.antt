-- What a reading comes to, and how checks follow one another: document 01, "Checks, in this order, the first failure wins".
use Rattle.std.specs.Prelude.{ℕ, Bool, true, false}

-- The number of the first failed check, or what was read.
pub data Outcome (A : Type 0) : Type 0 where
  refused : ℕ → Outcome A
  accepted : A → Outcome A

-- A check with its number, and what follows where it holds.
unfoldable pub check : {A : Type 0} → ℕ → Bool → Outcome A → Outcome A
check number true rest = rest
check number false rest = refused number

-- A part is read, and then what follows it.
unfoldable pub and_then : {A B : Type 0} → Outcome A → (A → Outcome B) → Outcome B
and_then (refused number) rest = refused number
and_then (accepted a) rest = rest a

-- What is told of what was read.
unfoldable pub told : {A B : Type 0} → (A → B) → Outcome A → Outcome B
told tell (refused number) = refused number
told tell (accepted a) = accepted (tell a)
