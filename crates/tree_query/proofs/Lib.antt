pub mod Rooms
pub mod Measures
pub mod Searches
pub mod Near
pub mod Rebuilds
pub mod HostLines
