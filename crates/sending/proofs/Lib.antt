pub mod Planned
pub mod Ready
pub mod Performed
