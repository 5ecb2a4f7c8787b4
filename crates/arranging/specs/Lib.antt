pub mod Steps
pub mod Sequenced
pub mod Calls
pub mod Sequence
