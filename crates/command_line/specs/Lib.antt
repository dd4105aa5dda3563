pub mod Parts
pub mod Outcome
pub mod Command
pub mod Words
pub mod Laws
