pub mod Below
pub mod Sound
pub mod Opening
