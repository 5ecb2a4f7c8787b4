pub mod Laps
pub mod Words
