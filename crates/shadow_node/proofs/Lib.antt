pub mod Trees
pub mod Counted
pub mod Maps
pub mod Depths
pub mod Found
pub mod OneByOne
