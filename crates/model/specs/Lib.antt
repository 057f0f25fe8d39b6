pub mod Graph
pub mod Order
pub mod Run
pub mod Witness
pub mod Readable
pub mod Labels
