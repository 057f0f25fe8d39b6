-- Cases of document 01 that the reader decides, the locations and the fence of document 02, Points 3 and 5, and inputs with
-- two faults, of which the first check in the documents' order wins. One table, one computed test over it.
use Prim.Native.Nat.{ℕ}
use mathlib.Core.Path.{◌≡◌, refl}
use mathlib.Core.Bool.{Bool, true, ◌&&◌}
use mathlib.Core.List.{List, [], ◌∷◌, ◌++◌}
use lib.Dec.{eqb}
use Rattle.program.specs.Program.{Program, is_fence, any_is, fence_locations}
use Rattle.program.specs.Outcome.{Outcome, refused, accepted, check, and_then}
use Rattle.program.specs.Ops.{is_op, op_at, op_table, sum_op}
use Rattle.program.specs.Format.{mark_pr, mark_th, starts_with, is_record, is_operand, operand, when_used}
use Rattle.program.specs.Format.{zero_unless_used, uses_target, is_reg_and_rest, is_target, are_operands, leaves_room}
use Rattle.program.specs.Format.{fields_to_line, read_line, read_lines, read_thread, read_threads, are_in_range}
use Rattle.program.specs.Format.{ends_after, read_program}
use Rattle.program.specs.Spelling.{line_record}

-- The number of the failed check, 0 where the input is accepted.
abbrev number : Outcome Program → ℕ
number (refused k) = k
number (accepted p) = 0

-- An input and the number that it gets.
record Case : Type 0 where
  bytes : List ℕ
  gets : ℕ

abbrev case : List ℕ → ℕ → Case
case bytes gets = record { bytes = bytes; gets = gets }

abbrev header : (T L K : ℕ) → List ℕ
header T L K = mark_pr ++ T ∷ L ∷ K ∷ []

abbrev thread : (n : ℕ) → List ℕ
thread n = mark_th ++ n ∷ []

-- One thread of one line.
abbrev one_line : List ℕ → List ℕ
one_line line = header 1 1 2 ++ thread 1 ++ line

-- The same among L locations.
abbrev one_line_among : (L : ℕ) → List ℕ → List ℕ
one_line_among L line = header 1 L 2 ++ thread 1 ++ line

abbrev cases : List Case
cases =
    -- "Empty input: 1."
    case [] 1
    -- "K = 1: 2."
    ∷ case (header 1 1 1 ++ thread 0) 2
    -- "One byte after the last record: 9."
    ∷ case (header 1 1 2 ++ thread 0 ++ 0 ∷ []) 9
    -- "op 4 to line n: accepted; to n + 1: 7."
    ∷ case (one_line (line_record 4 0 1 1 0)) 0
    ∷ case (one_line (line_record 4 0 2 1 0)) 7
    -- "PR 1 1 2, TH 0."
    ∷ case (header 1 1 2 ++ thread 0) 0
    -- "L may be 1 to 16"
    ∷ case (header 1 0 2 ++ thread 0) 2
    ∷ case (header 1 16 2 ++ thread 0) 0
    ∷ case (header 1 17 2 ++ thread 0) 2
    ∷ case (header 1 16 2 ++ thread 1 ++ line_record 5 0 15 1 0) 0
    ∷ case (header 1 16 2 ++ thread 1 ++ line_record 5 0 16 1 0) 7
    -- "12 when op 11 stands in a program whose L is 16": not at 15, and no other op
    ∷ case (one_line_among 15 (line_record 11 0 0 0 0)) 0
    ∷ case (one_line_among 16 (line_record 11 0 0 0 0)) 12
    ∷ case (one_line_among 16 (line_record 10 0 0 0 0)) 0
    -- a line that names the fence's location, L
    ∷ case (header 1 1 2 ++ thread 2 ++ line_record 11 0 0 0 0 ++ line_record 5 0 1 0 0) 7
    -- 5 before 12: an unknown op. 12 before 6, "directly after check 5": a field that a fence does not use
    ∷ case (one_line_among 16 (line_record 12 0 0 0 0)) 5
    ∷ case (one_line_among 16 (line_record 11 1 0 0 0)) 12
    ∷ case (one_line_among 15 (line_record 11 1 0 0 0)) 6
    -- 1 before 2: a header cut short, of nine threads
    ∷ case (mark_pr ++ 9 ∷ 1 ∷ []) 1
    -- 2 before 3: no locations, and no thread
    ∷ case (header 1 0 2) 2
    -- 3 before 4: the mark alone
    ∷ case (header 1 1 2 ++ mark_th) 3
    -- 4 before 3: too many lines, none of which is there
    ∷ case (header 1 1 2 ++ thread 65) 4
    -- 3 before 5: a line cut short, with an unknown op
    ∷ case (one_line (73 ∷ 78 ∷ 12 ∷ 0 ∷ 0 ∷ 0 ∷ [])) 3
    -- 5 before 6: an unknown op, with a wrong reg
    ∷ case (one_line (line_record 12 4 0 0 0)) 5
    -- 6 before 7: a wrong reg, and a location that is not there
    ∷ case (one_line (line_record 6 4 1 0 0)) 6
    -- 6 before 7: an unused field that is not 0, and a location that is not there
    ∷ case (one_line (line_record 5 1 1 0 0)) 6
    -- 7 before 8: a location that is not there, and a value that is not there
    ∷ case (one_line (line_record 5 0 1 2 0)) 7
    -- 8 before 9: register 4, and a byte too many
    ∷ case (one_line (line_record 5 0 0 132 0) ++ 0 ∷ []) 8
    -- a fault in an earlier line before any in a later one
    ∷ case (header 1 1 2 ++ thread 2 ++ line_record 5 0 0 2 0 ++ line_record 12 0 0 0 0) 8
    -- a fault in an earlier thread before one in a later one
    ∷ case (header 2 1 2 ++ thread 1 ++ line_record 5 0 0 2 0 ++ thread 65) 8
    ∷ []

abbrev passes : List Case → Bool
passes [] = true
passes (c ∷ cs) = eqb (number (read_program c.bytes)) c.gets && passes cs

pub every_case : passes cases ≡ true
unfolding read_program is_record starts_with are_in_range ends_after read_threads read_thread read_lines read_line fields_to_line check
    and_then is_op op_at op_table sum_op is_reg_and_rest is_target are_operands when_used zero_unless_used uses_target is_operand operand leaves_room
every_case = refl

-- The locations of the program, 0 where the input is refused.
abbrev locations : Outcome Program → ℕ
locations (refused k) = 0
locations (accepted p) = p.locations

-- "when the program has an op 11" it has a location more than L: inputs and the number of all their locations.
abbrev fenced : List Case
fenced =
    case (header 1 3 2 ++ thread 1 ++ line_record 10 0 0 0 0) 3
    ∷ case (header 1 3 2 ++ thread 1 ++ line_record 11 0 0 0 0) 4
    -- one location for all fences
    ∷ case (header 2 3 2 ++ thread 1 ++ line_record 11 0 0 0 0 ++ thread 1 ++ line_record 11 0 0 0 0) 4
    -- a fence that no run reaches, in the last thread
    ∷ case (header 2 3 2 ++ thread 0 ++ thread 2 ++ line_record 4 0 2 1 0 ++ line_record 11 0 0 0 0) 4
    ∷ []

abbrev counts : List Case → Bool
counts [] = true
counts (c ∷ cs) = eqb (locations (read_program c.bytes)) c.gets && counts cs

pub every_location_counted : counts fenced ≡ true
unfolding read_program is_record starts_with are_in_range ends_after read_threads read_thread read_lines read_line fields_to_line check
    and_then is_op op_at op_table sum_op is_reg_and_rest is_target are_operands when_used zero_unless_used uses_target is_operand operand leaves_room
    fence_locations any_is is_fence
every_location_counted = refl
