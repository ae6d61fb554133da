pub mod Plain
pub mod PlainPorts
pub mod Commit
pub mod Hooks
pub mod Phases
pub mod Events
pub mod Tries
