pub mod Words
pub mod Plan
pub mod Gate
pub mod Table
