pub mod Limits
pub mod Changes
pub mod Walk
pub mod Along
