pub mod Force
pub mod Depth
pub mod Code
