pub mod Frames
pub mod Mounts
pub mod Reading
pub mod Watchers
pub mod MemoryWatchers
