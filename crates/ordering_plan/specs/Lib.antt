pub mod State
pub mod Arrange
pub mod Gate
pub mod Room
