pub mod Guesses
pub mod Laws
pub mod Scores
