pub mod Read
pub mod Mounted
pub mod Hearing
pub mod Telling
pub mod SmallMounts
