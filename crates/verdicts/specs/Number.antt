-- Document 01's number of each report: "a definition gives this paper's number and values for each of its cases. The
-- promises use that definition." The values are the case's own fields.
use Rattle.std.specs.Prelude.{ℕ}
use Rattle.verdicts.specs.declared.Report.{Report}
use Rattle.verdicts.specs.declared.Report.TheVariants.{Robust, Ended, Full, Short, Refused}

-- The number of the check that failed, 0 where none did: "10, with a wanted length", "11, printed as FU".
unfoldable pub check_number : Report → ℕ
check_number (Robust count) = 0
check_number (Ended count steps e) = 0
check_number (Full count) = 11
check_number (Short wanted) = 10
check_number (Refused number) = number
