pub mod Extending
pub mod Kept
