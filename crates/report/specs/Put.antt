-- What a function that prints at a cursor does. The printed bytes themselves are defined in Text.
use Rattle.std.specs.Prelude.{ℕ, ◌+◌, ◌-◌, min, ◌≡◌, List, length}
use Rattle.std.proofs.lemmas.List.Edits.{sets}

-- The bytes stand in the buffer from the cursor on, as many as there is room for, all else is as it was, and the next
-- cursor is behind them. (A store past the end changes nothing.)
pub record Put (before : List ℕ) (at : ℕ) (bytes after : List ℕ) (next : ℕ) : Type 0 where
  pub written : after ≡ sets before at bytes
  pub behind : next ≡ at + min (length bytes) (length before - at)
