-- What a method that prints does with its cursor: it is in the same buffer, and the bytes stand there.
use Rattle.std.specs.Prelude.{◌≡◌, ℕ, List}
use Rattle.report.specs.Put.{Put}
use Rattle.report.specs.declared.put.Cursor.{Cursor}

pub record Prints (before : Cursor) (bytes : List ℕ) (after : Cursor) : Type 0 where
  pub same_buffer : after.out.ghost_name ≡ before.out.ghost_name
  pub put : Put before.out.now before.at bytes after.out.now after.at
