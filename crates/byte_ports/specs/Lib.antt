pub mod Sources
pub mod Sinks
pub mod MemorySources
pub mod MemorySinks
pub mod BlockSinks
