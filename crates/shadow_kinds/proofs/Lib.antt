pub mod AxesInRange
pub mod Widening
pub mod Inverses
pub mod SameProps
