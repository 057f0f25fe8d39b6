pub mod Prints
pub mod Put
pub mod Text
