pub mod Tags
pub mod OneNode
pub mod Trees
pub mod Ways
pub mod Limits
pub mod FourTags
pub mod Along
