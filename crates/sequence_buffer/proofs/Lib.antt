pub mod Held
pub mod Home
pub mod Passes
