pub mod Laws
pub mod Sink
pub mod Precedes
pub mod Decide
