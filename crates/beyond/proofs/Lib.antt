pub mod Moves
pub mod Whole
pub mod Sizes
pub mod Bounds
pub mod Intervals
pub mod Rearranged
