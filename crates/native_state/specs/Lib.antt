pub mod Families
pub mod Made
pub mod State
pub mod Same
