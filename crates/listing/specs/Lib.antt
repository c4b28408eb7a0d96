pub mod Text
pub mod Line
pub mod Records
pub mod Code
pub mod Answers
pub mod Program
