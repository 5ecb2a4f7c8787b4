pub mod State
pub mod Gate
