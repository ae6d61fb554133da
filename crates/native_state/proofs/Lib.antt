pub mod Clamps
pub mod Same
