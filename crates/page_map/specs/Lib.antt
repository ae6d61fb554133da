pub mod Rising
pub mod Entries
pub mod Pages
pub mod Lent
