pub mod Planned
pub mod Passing
