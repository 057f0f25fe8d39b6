-- Where the lines of each thread stand in the program bytes: document 01, section "Program bytes".
use Rattle.std.specs.Prelude.{ℕ, ◌+◌, ◌*◌, List, [], ◌∷◌, length, get_or}
use Rattle.program.specs.Program.{Line}
use Rattle.program.specs.Format.{size_pr, size_th, size_in}

-- "TH, n: opens a thread of n lines": the bytes of its TH record and of its IN records.
abbrev pub thread_size : List Line → ℕ
thread_size lines = size_th + length lines * size_in

-- "There are T of them, each followed by its n lines": the byte at which the lines of each thread start, when the first
-- TH record stands at byte `at`.
unfoldable pub starts_from : ℕ → List (List Line) → List ℕ
starts_from at [] = []
starts_from at (lines ∷ threads) = (at + size_th) ∷ starts_from (at + thread_size lines) threads

-- The byte at which the lines of thread t start: the PR record "comes first".
unfoldable pub start_of : List (List Line) → ℕ → ℕ
start_of threads t = get_or (starts_from size_pr threads) t 0
