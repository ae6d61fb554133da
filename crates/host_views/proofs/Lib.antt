pub mod Same
pub mod Tables
pub mod AtOneTag
pub mod Shown
pub mod Parents
pub mod Steps
pub mod Asked
