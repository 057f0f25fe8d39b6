pub mod Places
pub mod Ends
pub mod Pieces
pub mod Each
pub mod Stores
pub mod Tests
