pub mod Section
pub mod Load
pub mod Refusals
pub mod Code
pub mod Turned
pub mod Rearranged
pub mod Altered
