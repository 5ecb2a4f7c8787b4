pub mod Held
pub mod Sound
pub mod Full
pub mod Run
