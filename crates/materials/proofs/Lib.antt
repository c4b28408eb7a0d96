pub mod Table
pub mod Rows
pub mod Strength
pub mod Limits
pub mod Promise
