pub mod Writing
pub mod Laying
pub mod Pending
pub mod Answer
pub mod InTurn
pub mod Steps
