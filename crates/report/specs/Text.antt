-- What is printed for a report: document 01, "The printing program", with the ST lines of document 02, Point 1. A byte is
-- its number in ASCII.
use Rattle.std.specs.Prelude.{ℕ, zero, suc, ◌+◌, ◌*◌, ◌/◌, ◌%◌, cond, List, [], ◌∷◌, ◌++◌, length, get_or, take, drop, ltb}
use Rattle.rules.specs.declared.Ending.{Ending}
use Rattle.program.specs.ThreadNumber.{thread_number}
use Rattle.program.specs.Steps.{step_size, kind_number}
use Rattle.verdicts.specs.Number.{check_number}
use Rattle.verdicts.specs.declared.Report.{Report}
use Rattle.verdicts.specs.declared.Report.TheVariants.{Robust, Ended, Full, Short, Refused}

-- The digits 0 to 9.
abbrev pub digit : ℕ → ℕ
digit d = 48 + d

-- A number in at most so many decimal digits, the most significant first: those of its tenth part, then the last.
unfoldable pub decimal_in : (most : ℕ) → ℕ → List ℕ
decimal_in zero n = []
decimal_in (suc most) n =
    let longer = decimal_in most (n / 10) ++ digit (n % 10) ∷ [] in cond (ltb n 10) (digit n ∷ []) longer

-- "the count", "the number": a number in decimal. (n + 1 digits are enough for n.)
unfoldable pub decimal : ℕ → List ℕ
decimal n = decimal_in (suc n) n

-- "kinds 0 to 3 for L, R, W, M"
abbrev pub letters : List ℕ
letters = 76 ∷ 82 ∷ 87 ∷ 77 ∷ []

-- The letter of a kind by its number. A text asks nothing of its caller, so any other byte has a question mark; no trace
-- of ours has one (the theorem lines_of_steps).
unfoldable pub letter_of : (kind : ℕ) → ℕ
letter_of kind = get_or letters kind 63

abbrev pub space : ℕ
space = 32

abbrev pub newline : ℕ
newline = 10

-- "Fields are separated by one space, and each line ends with a newline."
unfoldable pub line : List (List ℕ) → List ℕ
line [] = newline ∷ []
line (field ∷ []) = field ++ newline ∷ []
line (field ∷ next ∷ fields) = field ++ space ∷ line (next ∷ fields)

-- "It prints RB ..; FU ..; NO ..; or NR .., then one ST line": the first field of each line.
abbrev pub mark_rb : List ℕ
mark_rb = 82 ∷ 66 ∷ []

abbrev pub mark_fu : List ℕ
mark_fu = 70 ∷ 85 ∷ []

abbrev pub mark_no : List ℕ
mark_no = 78 ∷ 79 ∷ []

abbrev pub mark_nr : List ℕ
mark_nr = 78 ∷ 82 ∷ []

abbrev pub mark_st : List ℕ
mark_st = 83 ∷ 84 ∷ []

-- "An ST line becomes thread, kind, location, value"
unfoldable pub step_line : (thread kind location value : ℕ) → List ℕ
step_line thread kind location value =
    line (mark_st ∷ decimal thread ∷ (letter_of kind ∷ []) ∷ decimal location ∷ decimal value ∷ [])

-- "one ST line .. for each step": of so many steps, those that are in the trace, "four bytes a step, in that order". Bytes
-- at its end that make no whole step have no line.
unfoldable pub step_lines : (steps : ℕ) → (trace : List ℕ) → List ℕ
step_lines zero trace = []
step_lines (suc steps) [] = []
step_lines (suc steps) (thread ∷ []) = []
step_lines (suc steps) (thread ∷ kind ∷ []) = []
step_lines (suc steps) (thread ∷ kind ∷ location ∷ []) = []
step_lines (suc steps) (thread ∷ kind ∷ location ∷ value ∷ trace) =
    step_line thread kind location value ++ step_lines steps trace

-- "NR, count, number of steps, thread, kind (R, W or M for read-modify-write), location and stale value"
unfoldable pub ending_line : (count steps : ℕ) → Ending → List ℕ
ending_line count steps e =
    line
    (mark_nr
    ∷ decimal count
    ∷ decimal steps
    ∷ decimal (thread_number e.thread)
    ∷ (letter_of (kind_number e.kind) ∷ [])
    ∷ decimal e.location
    ∷ decimal e.value
    ∷ [])

-- "RB and the count; FU and the count; NO and the number; or NR, count, number of steps, thread, kind .., location and
-- stale value, then one ST line .. for each step."
unfoldable pub text_of : Report → (trace : List ℕ) → List ℕ
text_of (Robust count) trace = line (mark_rb ∷ decimal count ∷ [])
text_of (Full count) trace = line (mark_fu ∷ decimal count ∷ [])
text_of (Refused number) trace = line (mark_no ∷ decimal (check_number (Refused number)) ∷ [])
text_of (Short wanted) trace = line (mark_no ∷ decimal (check_number (Short wanted)) ∷ [])
text_of (Ended count steps e) trace = ending_line count steps e ++ step_lines steps trace

-- The longest line: NR, three numbers of up to 20 digits, a letter, two numbers of up to 3 digits, six spaces and a
-- newline.
abbrev pub longest_line : ℕ
longest_line = 2 + 3 * 20 + 1 + 2 * 3 + 6 + 1

-- The longest line of a step: ST, three numbers of up to 3 digits, a letter, four spaces and a newline.
abbrev pub longest_step : ℕ
longest_step = 2 + 3 * 3 + 1 + 4 + 1

-- A text is no longer than this, with a trace of that length.
abbrev pub longest_text : (trace_length : ℕ) → ℕ
longest_text trace_length = longest_line + longest_step * (trace_length / step_size)

-- A buffer in which a text has been laid: the text as far as the buffer reaches, then the other bytes as they were.
abbrev pub laid : (text buffer : List ℕ) → List ℕ
laid text buffer = take (length buffer) text ++ drop (length text) buffer
