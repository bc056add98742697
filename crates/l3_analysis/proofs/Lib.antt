pub mod Stages
pub mod Presuming
pub mod Sound
mod RoundLemmas
pub mod Unstaged
