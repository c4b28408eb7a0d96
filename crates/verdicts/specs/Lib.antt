pub mod Tension
pub mod Verdicts
pub mod Code
