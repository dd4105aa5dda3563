pub mod Words
pub mod Stored
pub mod Header
pub mod Writing
pub mod Reading
pub mod Found
pub mod Again
pub mod Sound
