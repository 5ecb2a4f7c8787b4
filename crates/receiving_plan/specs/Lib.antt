pub mod Plan
pub mod Heard
