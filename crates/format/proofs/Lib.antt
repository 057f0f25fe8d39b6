pub mod FieldChecks
pub mod AcceptedLines
pub mod Turns
pub mod Filling
pub mod AcceptedHeader
pub mod SourceLines
