pub mod Memory
pub mod Machine
pub mod Outcomes
pub mod Claims
