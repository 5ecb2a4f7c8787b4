pub mod Take
pub mod Calls
