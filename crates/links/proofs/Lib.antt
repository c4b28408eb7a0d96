pub mod Whole
pub mod Order
pub mod Last
