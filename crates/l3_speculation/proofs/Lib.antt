pub mod Counts
pub mod Running
pub mod Going
pub mod Boards
pub mod Brought
pub mod Steps
