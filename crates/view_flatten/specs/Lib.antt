pub mod HostTree
pub mod Walks
pub mod Skips
pub mod Placed
pub mod Placing
pub mod Places
pub mod Sites
