-- Document 01, section "Cases, marked * where proved", with the traces, the wanted length and the place size of document
-- 02, Points 1, 2 and 3: the starred cases as entries of one table, and with them programs with fences, Point 5.
use Rattle.std.specs.Prelude.{ℕ, ◌-◌, ◌≡◌, List, [], ◌∷◌, ◌++◌, length}
use Rattle.program.specs.declared.Kind.{Kind}
use Rattle.program.specs.declared.Kind.TheVariants.{Read, Write}
use Rattle.program.specs.Format.{read_program}
use Rattle.verdicts.specs.Answer.{report_of, trace_after}
use Rattle.verdicts.specs.declared.Report.{Report}
use Rattle.verdicts.specs.declared.Report.TheVariants.{Robust, Ended, Full, Short, Refused}

-- What is handed in, the report, and the lent trace at exit.
pub record Case : Type 0 where
  pub bytes : List ℕ
  pub table_length : ℕ
  pub trace : List ℕ
  pub report : Report
  pub trace_at_exit : List ℕ

-- The definitions give what the case says.
pub record Holds (c : Case) : Type 0 where
  pub answered : report_of c.bytes c.table_length (length c.trace) ≡ c.report
  pub traced : trace_after (read_program c.bytes) c.table_length c.trace ≡ c.trace_at_exit

-- "NR, count, number of steps, thread, kind .., location and stale value". The thread is numbered from 1.
abbrev not_robust : (count steps thread : ℕ) (kind : Kind) (location value : ℕ) → Report
not_robust count steps thread kind location value =
    Ended count steps (record { thread = thread - 1; kind = kind; location = location; value = value })

-- "PR, T, L, K", "TH, n" and "IN, op, reg, target, A, B", with their marks in ASCII.
abbrev header : (T L K : ℕ) → List ℕ
header T L K = 80 ∷ 82 ∷ T ∷ L ∷ K ∷ []

abbrev thread : (n : ℕ) → List ℕ
thread n = 84 ∷ 72 ∷ n ∷ []

abbrev line : (op reg target a b : ℕ) → List ℕ
line op reg target a b = 73 ∷ 78 ∷ op ∷ reg ∷ target ∷ a ∷ b ∷ []

-- Ops 4, 5, 6, 9 and 11.
abbrev jump : (target a : ℕ) → List ℕ
jump target a = line 4 0 target a 0

abbrev write : (location a : ℕ) → List ℕ
write location a = line 5 0 location a 0

abbrev read : (reg location : ℕ) → List ℕ
read reg location = line 6 reg location 0 0

abbrev wait : (location a : ℕ) → List ℕ
wait location a = line 9 0 location a 0

abbrev fence : List ℕ
fence = line 11 0 0 0 0

-- "Locations x = 0, y = 1"
abbrev x : ℕ
x = 0

abbrev y : ℕ
y = 1

-- "The trace uses four bytes a step, in that order, with kinds 0 to 3 for L, R, W, M."
abbrev step : (thread kind location value : ℕ) → List ℕ
step thread kind location value = thread ∷ kind ∷ location ∷ value ∷ []

abbrev R : ℕ
R = 1

abbrev W : ℕ
W = 2

abbrev M : ℕ
M = 3

-- "SB: x := 1; read y ‖ y := 1; read x; K = 2."
abbrev sb : List ℕ
sb = header 2 2 2 ++ thread 2 ++ write x 1 ++ read 0 y ++ thread 2 ++ write y 1 ++ read 0 x

abbrev sb_steps : List ℕ
sb_steps = step 1 W x 1 ++ step 1 R y 0 ++ step 2 W y 1

-- SB with a fence between the two lines of thread 1, and of each thread.
abbrev sb_fenced_once : List ℕ
sb_fenced_once = header 2 2 2 ++ thread 3 ++ write x 1 ++ fence ++ read 0 y ++ thread 2 ++ write y 1 ++ read 0 x

abbrev sb_fenced : List ℕ
sb_fenced = header 2 2 2 ++ thread 3 ++ write x 1 ++ fence ++ read 0 y ++ thread 3 ++ write y 1 ++ fence ++ read 0 x

-- "a location of its own, numbered after the L named ones": location 2, where a fence writes 0.
abbrev sb_fenced_once_steps : List ℕ
sb_fenced_once_steps = step 1 W x 1 ++ step 1 M 2 0 ++ step 1 R y 0 ++ step 2 W y 1

-- "MP: x := 1; y := 1 ‖ read y; read x (two registers)."
abbrev mp : List ℕ
mp = header 2 2 2 ++ thread 2 ++ write x 1 ++ write y 1 ++ thread 2 ++ read 0 y ++ read 1 x

-- "2+2W: x := 1; y := 2; read y ‖ y := 1; x := 2; read x; K = 3."
abbrev two_plus_two_w : List ℕ
two_plus_two_w =
    header 2 2 3
    ++ thread 3 ++ write x 1 ++ write y 2 ++ read 0 y
    ++ thread 3 ++ write y 1 ++ write x 2 ++ read 0 x

abbrev two_plus_two_w_steps : List ℕ
two_plus_two_w_steps = step 1 W x 1 ++ step 1 W y 2 ++ step 2 W y 1

-- "Barrier: x := 1; wait y = 1 ‖ y := 1; wait x = 1."
abbrev barrier : List ℕ
barrier = header 2 2 2 ++ thread 2 ++ write x 1 ++ wait y 1 ++ thread 2 ++ write y 1 ++ wait x 1

-- "PR 1 1 2, TH 0."
abbrev nothing : List ℕ
nothing = header 1 1 2 ++ thread 0

-- One thread of one line, an op 4.
abbrev jumping : (target : ℕ) → List ℕ
jumping target = header 1 1 2 ++ thread 1 ++ jump target 1

-- Lent bytes, and as many as three steps need.
abbrev lent_eleven : List ℕ
lent_eleven = 9 ∷ 8 ∷ 7 ∷ 6 ∷ 5 ∷ 4 ∷ 3 ∷ 2 ∷ 1 ∷ 9 ∷ 8 ∷ []

abbrev lent_twelve : List ℕ
lent_twelve = lent_eleven ++ 7 ∷ []

-- Fourteen bytes of trace are lent where a case does not say how many: two more than for the steps that are found.
abbrev lent : List ℕ
lent = lent_twelve ++ 6 ∷ 5 ∷ []

-- As many as four steps need.
abbrev lent_sixteen : List ℕ
lent_sixteen = lent ++ 4 ∷ 3 ∷ []

-- One thread of one fence, among L locations.
abbrev fence_among : (L : ℕ) → List ℕ
fence_among L = header 1 L 2 ++ thread 1 ++ fence

-- A case in which the trace stays.
abbrev staying : (bytes : List ℕ) (table_length : ℕ) (trace : List ℕ) → Report → Case
staying bytes table_length trace report =
    record { bytes = bytes; table_length = table_length; trace = trace; report = report; trace_at_exit = trace }

-- A case in which the trace gets the steps.
abbrev getting : (bytes : List ℕ) (table_length : ℕ) (trace : List ℕ) → Report → (trace_at_exit : List ℕ) → Case
getting bytes table_length trace report trace_at_exit =
    record { bytes = bytes; table_length = table_length; trace = trace; report = report; trace_at_exit = trace_at_exit }

-- "the cases with lent lengths follow": the place size of document 02, Point 3, is 65 for T = L = 2 and 29 for T = L = 1,
-- and the counts are those of document 01.
unfoldable pub cases : List Case
cases =
    -- SB in seven places: "NR 7 3 2 R 0 0", with its three steps. In a byte less: "11, count 6."
    getting sb 455 lent (not_robust 7 3 2 Read x 0) (sb_steps ++ 6 ∷ 5 ∷ [])
    ∷ staying sb 454 lent (Full 6)
    -- "MP needs 845 bytes for RB": "RB 13." In a byte less: "11, count 12."
    ∷ staying mp 845 lent (Robust 13)
    ∷ staying mp 844 lent (Full 12)
    -- "2+2W .. NR 8 3 2 W 0 0 with steps 1, 1, 2.": eight places.
    ∷ getting two_plus_two_w 520 lent (not_robust 8 3 2 Write x 0) (two_plus_two_w_steps ++ 6 ∷ 5 ∷ [])
    -- "Barrier .. RB 7.": seven places
    ∷ staying barrier 455 lent (Robust 7)
    -- "PR 1 1 2, TH 0." in one place: "RB 1." In a byte less: "11, count 0."
    ∷ staying nothing 29 lent (Robust 1)
    ∷ staying nothing 28 lent (Full 0)
    -- "Check 10 then wants four bytes for each step (12 for SB)", "exactly the bytes the trace needs": with a trace of 11
    -- or of none, 10 with 12 wanted. With 12: NR.
    ∷ staying sb 455 lent_eleven (Short 12)
    ∷ staying sb 455 [] (Short 12)
    ∷ getting sb 455 lent_twelve (not_robust 7 3 2 Read x 0) sb_steps
    -- "Empty input: 1." "K = 1: 2." "One byte after the last record: 9."
    ∷ staying [] 455 lent (Refused 1)
    ∷ staying (header 1 1 1 ++ thread 0) 455 lent (Refused 2)
    ∷ staying (nothing ++ 0 ∷ []) 455 lent (Refused 9)
    -- "op 4 to line n: accepted; to n + 1: 7."
    ∷ staying (jumping 1) 455 lent (Robust 2)
    ∷ staying (jumping 2) 455 lent (Refused 7)
    -- A fence's location is "counted in the place size when the program has an op 11": 98 bytes for T = L = 2 and a fence,
    -- 50 for T = L = 1 and a fence. SB with fences is robust; with one in thread 1 only it is not.
    ∷ staying sb_fenced 2548 lent (Robust 26)
    ∷ staying sb_fenced 2547 lent (Full 25)
    ∷ getting sb_fenced_once 1078 lent_sixteen (not_robust 11 4 2 Read x 0) sb_fenced_once_steps
    ∷ staying (fence_among 1) 100 lent (Robust 2)
    ∷ staying (fence_among 1) 99 lent (Full 1)
    -- "12 when op 11 stands in a program whose L is 16"
    ∷ staying (fence_among 16) 455 lent (Refused 12)
    ∷ []
