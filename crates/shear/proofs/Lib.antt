pub mod Powers
pub mod Factor
pub mod Roots
