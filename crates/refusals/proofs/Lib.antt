pub mod Chain
pub mod Exits
pub mod Number
