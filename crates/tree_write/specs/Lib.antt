pub mod PlainNodes
pub mod WrittenNodes
