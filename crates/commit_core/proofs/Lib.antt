pub mod PlainSteps
pub mod Steps
pub mod Tries
pub mod Passes
