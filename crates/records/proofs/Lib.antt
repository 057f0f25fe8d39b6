pub mod AtCursor
pub mod FirstRow
pub mod RowTests
