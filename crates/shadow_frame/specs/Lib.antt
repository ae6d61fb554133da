pub mod Place
pub mod Range
pub mod Same
