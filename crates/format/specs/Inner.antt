-- What the reader's own functions tell one another of what they read. No caller needs it.
use Rattle.std.specs.Prelude.{ℕ, Bool, List, length}
use Rattle.program.specs.Program.{Line, is_fence, has_fence}
use Rattle.format.specs.declared.threads.ThreadRead.{ThreadRead}

-- The line that was read is a fence; some line that was read is one.
abbrev pub line_is_fence : Line × List ℕ → Bool
line_is_fence got = is_fence got.0

abbrev pub lines_have_fence : List Line × List ℕ → Bool
lines_have_fence got = has_fence got.0

-- Of a thread its number of lines, and whether one is a fence.
abbrev pub lines_told : List Line × List ℕ → ThreadRead
lines_told got = record { count = length got.0; fenced = has_fence got.0 }
