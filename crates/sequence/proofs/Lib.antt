pub mod Pairs
pub mod Order
pub mod Library
pub mod Sorting
