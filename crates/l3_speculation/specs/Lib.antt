pub mod Reused
pub mod Run
pub mod Calls
pub mod Laws
pub mod Pieces
