pub mod Situation
pub mod Schedule
pub mod Verdict
