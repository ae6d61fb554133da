pub mod Mounted
pub mod Answers
