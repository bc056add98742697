pub mod Tables
pub mod Codes
pub mod Facts
pub mod Reading
pub mod Standing
pub mod Laws
pub mod Words
pub mod ReadingTables
