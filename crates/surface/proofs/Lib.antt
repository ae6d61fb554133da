mod Passes
mod Committing
mod Leading
mod Mounting
mod Trying
