pub mod Force
pub mod Refusals
pub mod Code
pub mod Depth
pub mod Moment
pub mod Accuracy
