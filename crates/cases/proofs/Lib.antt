pub mod Tried
pub mod Quick
pub mod Held
