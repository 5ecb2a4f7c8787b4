pub mod State
pub mod Gate
pub mod Questions
