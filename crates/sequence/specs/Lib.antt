pub mod Order
pub mod Code
