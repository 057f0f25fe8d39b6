pub mod Clauses
pub mod Searched
pub mod Ways
pub mod Tracing
pub mod Endings
pub mod IndexKept
pub mod Judging
