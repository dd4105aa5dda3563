pub mod Turns
pub mod WorkedRuns
