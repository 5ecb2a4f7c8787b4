pub mod Buffer
pub mod Facts
