pub mod Changes
pub mod EntryRules
pub mod Filled
pub mod LaneStep
pub mod Lanes
pub mod Steps
pub mod Undo
pub mod VersionStep
