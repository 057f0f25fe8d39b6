-- The limits of document 01, sections "Program bytes" and "Table", and of document 02, Point 3, each in one place: the
-- constants of src/lib.rt.
use Rattle.std.specs.Prelude.{ℕ}

-- "threads 1 to 8"
abbrev pub max_threads : ℕ
max_threads = 8

-- "L may be 1 to 16"
abbrev pub max_locations : ℕ
max_locations = 16

-- "values 0 to K−1 with K from 2 to 16"
abbrev pub min_values : ℕ
min_values = 2

abbrev pub max_values : ℕ
max_values = 16

-- "one bit for each member", locations or values, in two bytes
abbrev pub max_members : ℕ
max_members = 16

-- "a thread of n lines, 0 to 64"
abbrev pub max_lines : ℕ
max_lines = 64

-- "reg is 0 to 3"
abbrev pub registers : ℕ
registers = 4

-- "N, the places available, .. at most 1,000,000,000"
abbrev pub max_places : ℕ
max_places = 1000000000
