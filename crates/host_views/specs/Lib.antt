pub mod Plain
pub mod Same
pub mod Registry
pub mod Links
pub mod Code
pub mod HostTree
