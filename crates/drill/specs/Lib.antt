pub mod Draws
pub mod Calls
pub mod Script
pub mod Tally
pub mod Schedule
pub mod Summary
pub mod Laws
