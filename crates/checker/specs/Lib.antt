pub mod Inner
pub mod Indexed
