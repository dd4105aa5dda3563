pub mod Created
pub mod Played
