pub mod Schedule
pub mod Numbering
pub mod Verdict
pub mod Queue
