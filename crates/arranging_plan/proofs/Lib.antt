pub mod Once
pub mod Parts
pub mod Sound
pub mod Gates
