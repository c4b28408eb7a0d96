pub mod Code
pub mod SizeFactor
pub mod Shear
