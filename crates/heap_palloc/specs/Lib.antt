pub mod Calls
pub mod Changes
pub mod Choice
pub mod Index
pub mod Lane
pub mod Law
pub mod Parts
pub mod Shown
