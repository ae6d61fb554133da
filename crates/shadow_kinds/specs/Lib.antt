pub mod Axes
pub mod Traits
pub mod Words
pub mod VersionOne
pub mod SameProps
