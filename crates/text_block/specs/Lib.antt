pub mod Blocks
pub mod Changes
