pub mod Kept
pub mod Drops
pub mod Opened
