pub mod Alike
pub mod Counted
pub mod HostTrees
pub mod Mounting
pub mod Opened
pub mod OneMore
