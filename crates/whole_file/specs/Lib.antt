pub mod Folders
pub mod Writers
