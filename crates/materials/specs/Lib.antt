pub mod Table
pub mod Situation
pub mod Strength
pub mod Answer
pub mod Code
