pub mod Printing
pub mod Streams
