pub mod Layers
pub mod Rearranged
pub mod Areas
