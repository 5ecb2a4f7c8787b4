pub mod Sound
pub mod Others
