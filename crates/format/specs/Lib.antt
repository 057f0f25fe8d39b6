pub mod Answer
pub mod Inner
pub mod Read
pub mod Source
