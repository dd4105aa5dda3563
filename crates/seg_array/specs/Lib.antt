pub mod Calls
pub mod Changes
pub mod Growth
pub mod Shown
