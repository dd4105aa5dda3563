pub mod Calls
pub mod Changes
pub mod Creation
pub mod Entries
pub mod Shown
