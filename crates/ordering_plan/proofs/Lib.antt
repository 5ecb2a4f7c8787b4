pub mod Planned
pub mod Fits
pub mod Gates
