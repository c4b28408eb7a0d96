pub mod Compressed
pub mod Refusals
pub mod Linked
pub mod Check
pub mod Trial
pub mod Unreached
pub mod Accuracy
pub mod Best
