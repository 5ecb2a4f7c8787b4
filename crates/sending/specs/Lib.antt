pub mod Plan
pub mod Send
