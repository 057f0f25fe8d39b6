use Rattle.std.proofs.Common.{ℕ, [], ◌∷◌, ap, sym}
use Rattle.report.specs.Text.{space}
use Rattle.report.proofs.Puts.{prints_then, prints_as}
use Rattle.report.proofs.put.Cursor.put_kind.Goals as goal

pub returns : goal.returns
returns c =
    prints_as (ap (λ (n : ℕ). space ∷ n ∷ []) (sym c.letter_of.ensures))
    (prints_then c.put_byte.ensures c.put_byte-2.ensures)
