pub mod Number
pub mod Chain
