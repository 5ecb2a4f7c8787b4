pub mod Calls
pub mod Never
pub mod Refused
