pub mod Joined
mod Taking
mod Blocks
