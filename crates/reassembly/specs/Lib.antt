pub mod Effects
pub mod Room
pub mod Call
