pub mod Checking
pub mod Laws
pub mod Compressed
pub mod Rearranged
pub mod Trial
