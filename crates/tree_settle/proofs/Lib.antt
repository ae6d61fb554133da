pub mod Settled
pub mod Lists
pub mod Stays
pub mod Steps
pub mod Unchanged
pub mod WaySteps
