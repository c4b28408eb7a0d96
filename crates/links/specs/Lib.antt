pub mod Links
pub mod Code
