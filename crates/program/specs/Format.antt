-- The program bytes, as document 01 has them in its sections "Program bytes" and "Checks", with the locations and the fence
-- of document 02, Points 3 and 5: from a list of bytes to the number of the first failed check, 1 to 9 or 12, or the
-- program. "All fields are one byte, an unsigned number": a byte is a number here. A record is read with the bytes after
-- it, and L is the number of the named locations.
use Rattle.std.specs.Prelude.{ℕ, zero, suc, ◌+◌, ◌-◌, Bool, true, false, not, cond, ◌&&◌, ◌||◌, List, [], ◌∷◌, length, get_or, drop, leb, ltb, eqb}
use Rattle.limits.specs.Limits.{max_threads, max_locations, min_values, max_values, max_lines, registers}
use Rattle.program.specs.Program.{Operand, Line, Program, fence_locations}
use Rattle.program.specs.Program.Operand.{constant, register}
use Rattle.program.specs.Outcome.{Outcome, check, and_then}
use Rattle.program.specs.Outcome.Outcome.{refused, accepted}
use Rattle.program.specs.Ops.{Target, Op, is_op, op_at, fence_op}
use Rattle.program.specs.Ops.Target.{no_target, to_location, to_line}

-- "Each record starts with a two-byte mark in ASCII."
abbrev pub mark_pr : List ℕ
mark_pr = 80 ∷ 82 ∷ []

abbrev pub mark_th : List ℕ
mark_th = 84 ∷ 72 ∷ []

abbrev pub mark_in : List ℕ
mark_in = 73 ∷ 78 ∷ []

-- "PR, T, L, K", "TH, n" and "IN, op, reg, target, A, B": the bytes of each record.
abbrev pub size_pr : ℕ
size_pr = 5

abbrev pub size_th : ℕ
size_th = 3

abbrev pub size_in : ℕ
size_in = 7

-- The bytes start with the mark.
unfoldable pub starts_with : List ℕ → List ℕ → Bool
starts_with [] bytes = true
starts_with (m ∷ mark) [] = false
starts_with (m ∷ mark) (b ∷ bytes) = eqb b m && starts_with mark bytes

-- Checks 1 and 3: "Does the input hold a whole PR record at its start?", "Is the record that is due there, whole and with
-- its mark?"
unfoldable pub is_record : List ℕ → ℕ → List ℕ → Bool
is_record mark size bytes = leb size (length bytes) && starts_with mark bytes

-- Check 2: "Are T, L and K in range?" "threads 1 to 8, .. values 0 to K−1 with K from 2 to 16.", and "L may be 1 to 16",
-- document 02, Point 3.
unfoldable pub are_in_range : (T L K : ℕ) → Bool
are_in_range T L K =
    (leb 1 T && leb T max_threads) && ((leb 1 L && leb L max_locations) && (leb min_values K && leb K max_values))

-- "A and B are operands: 0 to K−1 is that constant, 128 to 131 is register 0 to 3."
abbrev pub first_register : ℕ
first_register = 128

unfoldable pub is_operand : ℕ → ℕ → Bool
is_operand K x = ltb x K || (leb first_register x && ltb x (first_register + registers))

unfoldable pub operand : ℕ → ℕ → Operand
operand K x = cond (ltb x K) (constant x) (register (x - first_register))

-- A used field passes its test.
unfoldable pub when_used : Bool → Bool → Bool
when_used used test = not used || test

-- An unused field is 0.
unfoldable pub zero_unless_used : Bool → ℕ → Bool
zero_unless_used used x = used || eqb x 0

-- The op uses its target.
unfoldable pub uses_target : Target → Bool
uses_target no_target = false
uses_target to_location = true
uses_target to_line = true

-- Check 6: "Is a used reg 0 to 3, and is every unused field 0?"
unfoldable pub is_reg_and_rest : Op → ℕ → ℕ → ℕ → ℕ → Bool
is_reg_and_rest o reg target a b =
    when_used o.reg (ltb reg registers)
    && (zero_unless_used o.reg reg
    && (zero_unless_used (uses_target o.target) target && (zero_unless_used o.a a && zero_unless_used o.b b)))

-- Check 7: "Is a used target in range?" "A target is a location 0 to L−1, or for op 4 a line 0 to n. Line n is the end of
-- the thread."
unfoldable pub is_target : Target → (L n target : ℕ) → Bool
is_target no_target L n target = true
is_target to_location L n target = ltb target L
is_target to_line L n target = leb target n

-- Check 8: "Is each used operand in range?"
unfoldable pub are_operands : Op → ℕ → ℕ → ℕ → Bool
are_operands o K a b = when_used o.a (is_operand K a) && when_used o.b (is_operand K b)

-- "12 when op 11 stands in a program whose L is 16": by check 2, where it is not below.
unfoldable pub leaves_room : (L op : ℕ) → Bool
leaves_room L op = when_used (eqb op fence_op) (ltb L max_locations)

-- Checks 5 to 8 of the fields of a line, with 12 "asked directly after check 5", in a thread of n lines, and the line.
unfoldable pub fields_to_line : (L K n op reg target a b : ℕ) → Outcome Line
fields_to_line L K n op reg target a b =
    check 5 (is_op op)
    (check 12 (leaves_room L op)
    (check 6 (is_reg_and_rest (op_at op) reg target a b)
    (check 7 (is_target (op_at op).target L n target)
    (check 8 (are_operands (op_at op) K a b)
    (accepted ((op_at op).makes reg target (operand K a) (operand K b)))))))

-- "IN, op, reg, target, A, B: one line." Check 3, then those of the fields, of the IN record that is due.
unfoldable pub read_line : (L K n : ℕ) → List ℕ → Outcome (Line × List ℕ)
read_line L K n bytes =
    check 3 (is_record mark_in size_in bytes)
    (and_then
    (fields_to_line L K n (get_or bytes 2 0) (get_or bytes 3 0) (get_or bytes 4 0) (get_or bytes 5 0) (get_or bytes 6 0))
    (λ line. accepted (line, drop size_in bytes)))

-- A number of lines, of a thread of n.
unfoldable pub read_lines : (L K n count : ℕ) → List ℕ → Outcome (List Line × List ℕ)
read_lines L K n zero bytes = accepted ([], bytes)
read_lines L K n (suc count) bytes =
    and_then (read_line L K n bytes)
    (λ first. and_then (read_lines L K n count first.1) (λ others. accepted (first.0 ∷ others.0, others.1)))

-- "TH, n: opens a thread of n lines, 0 to 64." Check 3 of the TH record that is due, and check 4: "For TH, is n at most
-- 64?" Then its lines.
unfoldable pub read_thread : (L K : ℕ) → List ℕ → Outcome (List Line × List ℕ)
read_thread L K bytes =
    check 3 (is_record mark_th size_th bytes)
    (check 4 (leb (get_or bytes 2 0) max_lines) (read_lines L K (get_or bytes 2 0) (get_or bytes 2 0) (drop size_th bytes)))

-- "There are T of them, each followed by its n lines.": a number of threads.
unfoldable pub read_threads : (L K count : ℕ) → List ℕ → Outcome (List (List Line) × List ℕ)
read_threads L K zero bytes = accepted ([], bytes)
read_threads L K (suc count) bytes =
    and_then (read_thread L K bytes)
    (λ first. and_then (read_threads L K count first.1) (λ others. accepted (first.0 ∷ others.0, others.1)))

-- "After the last record", check 9: "Does the input end?" Then the program, whose locations count the fence's "when the
-- program has an op 11".
unfoldable pub ends_after : (L K : ℕ) → List (List Line) × List ℕ → Outcome Program
ends_after L K read =
    check 9 (eqb (length read.1) 0) (accepted (record { threads = read.0; locations = L + fence_locations read.0; values = K }))

-- The whole input: "PR, T, L, K" "comes first", with checks 1 and 2, then the threads, then check 9.
unfoldable pub read_program : List ℕ → Outcome Program
read_program bytes =
    check 1 (is_record mark_pr size_pr bytes)
    (check 2 (are_in_range (get_or bytes 2 0) (get_or bytes 3 0) (get_or bytes 4 0))
    (and_then
    (read_threads (get_or bytes 3 0) (get_or bytes 4 0) (get_or bytes 2 0) (drop size_pr bytes))
    (ends_after (get_or bytes 3 0) (get_or bytes 4 0))))

-- "A program is accepted when no check before the search fails." The program of an accepted input. (A refused input stands
-- for no program, and nothing is said of it.)
unfoldable pub program_in : Outcome Program → Program
program_in (refused number) = record { threads = []; locations = 0; values = 0 }
program_in (accepted p) = p

-- The program that the bytes spell, where they are accepted.
abbrev pub program_of : List ℕ → Program
program_of bytes = program_in (read_program bytes)
