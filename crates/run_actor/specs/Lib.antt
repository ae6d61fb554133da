pub mod Actors
pub mod Actions
pub mod Event
pub mod Steps
pub mod Runs
pub mod Running
