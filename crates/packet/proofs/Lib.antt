pub mod Whole
pub mod Accepted
