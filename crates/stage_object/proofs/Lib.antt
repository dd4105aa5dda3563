pub mod ChangesHold
pub mod Clears
pub mod EntryWords
pub mod OneStore
pub mod Plays
pub mod Retire
