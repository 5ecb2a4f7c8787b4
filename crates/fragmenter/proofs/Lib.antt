pub mod Packed
pub mod Keeping
pub mod Stages
pub mod Presenting
