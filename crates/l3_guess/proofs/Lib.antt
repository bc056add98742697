pub mod LastEight
pub mod Rows
pub mod ScorePlaces
