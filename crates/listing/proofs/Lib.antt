pub mod Decimal
pub mod Finishing
pub mod Longest
pub mod Sizes
pub mod Lengths
pub mod Following
pub mod Laws
