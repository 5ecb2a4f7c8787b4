pub mod Facts
pub mod Cleared
pub mod Turned
