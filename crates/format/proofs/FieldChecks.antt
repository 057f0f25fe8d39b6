-- What is told where a check fails, and where it holds; which line each op makes; and the header's checks.
use Prim.Native.Nat.{ℕ, ◌≤◌}
use native.Mathlib.Omega.{arith}
use mathlib.Core.Bool.{Bool, true, false}
use mathlib.Core.Path.{◌≡◌, refl}
use mathlib.Core.List.{List}
use lib.ListN.{length}
use lib.Dec.{eqb}
use Rattle.limits.specs.Limits.{max_threads}
use Rattle.program.specs.Format.{is_record, are_in_range, mark_pr, size_pr}
use Rattle.program.proofs.RecordLaws.{record_stands}
use Rattle.program.proofs.HeaderLaws.{in_range}
use Rattle.std.specs.Prelude.{Result, IsErr, IsErrAnd}
use Rattle.program.specs.Program.{Operand, Line, is_fence}
use Rattle.program.specs.Program.Line.{sum, equal, less, jump, write, read, fadd, cas, wait, bcas, fence}
use Rattle.program.specs.Outcome.{Outcome, check, told}
use Rattle.program.specs.Outcome.Outcome.{refused, accepted}
use Rattle.program.specs.Ops.{op_at, op_table, sum_op}
use Rattle.program.specs.Number.{outcome_of, refusal_number}
use Rattle.program.specs.declared.Refusal.{Refusal}
use Rattle.records.specs.Fields.{op_number, table_row}
use Rattle.records.specs.declared.Op.{Op}
use Rattle.records.specs.declared.Op.TheVariants.{Sum, Equal, Less, Jump, Write, Read, Fadd, Cas, Wait, Bcas, Fence}

module _ {A B : Type 0} (tell : A → B) (number : ℕ) (holds : Bool) (rest : Outcome A) where
  pub told_fails : holds ≡ false → told tell (check number holds rest) ≡ refused number
  unfolding told check
  told_fails e = rw e

  pub told_passes : holds ≡ true → told tell (check number holds rest) ≡ told tell rest
  unfolding check
  told_passes e = rw e

pub told_accepted : {A B : Type 0} (tell : A → B) (a : A) → told tell (accepted a) ≡ accepted (tell a)
unfolding told
told_accepted tell a = refl

-- The line that an op of the table makes, op by op.
abbrev pub made : Op → (r x : ℕ) (a b : Operand) → Line
made Sum r x a b = sum r a b
made Equal r x a b = equal r a b
made Less r x a b = less r a b
made Jump r x a b = jump x a
made Write r x a b = write x a
made Read r x a b = read r x
made Fadd r x a b = fadd r x a
made Cas r x a b = cas r x a b
made Wait r x a b = wait x a
made Bcas r x a b = bcas x a b
made Fence r x a b = fence

pub row_makes : (op : Op) (r x : ℕ) (a b : Operand) → (table_row op).makes r x a b ≡ made op r x a b
unfolding op_at op_table sum_op
row_makes Sum r x a b = refl
row_makes Equal r x a b = refl
row_makes Less r x a b = refl
row_makes Jump r x a b = refl
row_makes Write r x a b = refl
row_makes Read r x a b = refl
row_makes Fadd r x a b = refl
row_makes Cas r x a b = refl
row_makes Wait r x a b = refl
row_makes Bcas r x a b = refl
row_makes Fence r x a b = refl

-- An op makes a fence where it is the fence's.
pub fence_made : (op : Op) (r x : ℕ) (a b : Operand) → is_fence ((table_row op).makes r x a b) ≡ eqb (op_number op) 11
unfolding op_at op_table sum_op is_fence
fence_made Sum r x a b = refl
fence_made Equal r x a b = refl
fence_made Less r x a b = refl
fence_made Jump r x a b = refl
fence_made Write r x a b = refl
fence_made Read r x a b = refl
fence_made Fadd r x a b = refl
fence_made Cas r x a b = refl
fence_made Wait r x a b = refl
fence_made Bcas r x a b = refl
fence_made Fence r x a b = refl

-- What `?` hands on has the number of what failed.
pub handed_on : {A : Type 0} (r : Result A Refusal) (why : Refusal) → IsErr r × IsErrAnd r (λ x. x ≡ why)
    → outcome_of r ≡ refused (refusal_number why)
handed_on r why e = grind arith

pub ruleset fields_checked = (told_fails, told_passes, told_accepted, fence_made, handed_on)

-- T of a header that is in range is no larger than the header has room for.
pub few_threads : (T L K : ℕ) → are_in_range T L K ≡ true → T ≤ max_threads
few_threads T L K e = (in_range T L K e).few_threads

-- The PR record stands at the start of the input, and fits.
pub header_fits : (bytes : List ℕ) → is_record mark_pr size_pr bytes ≡ true → size_pr ≤ length bytes
header_fits bytes e = omega (arith, (record_stands mark_pr size_pr bytes e).0)

pub ruleset header_checked = (told_fails, told_passes, few_threads, header_fits)
