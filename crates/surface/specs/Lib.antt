pub mod Passing
pub mod Committing
pub mod Mounting
