pub mod Rows
pub mod Written
pub mod Outcome
pub mod Laws
