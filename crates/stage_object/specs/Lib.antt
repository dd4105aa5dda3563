pub mod Changes
pub mod Object
pub mod Shown
