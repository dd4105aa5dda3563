pub mod Events
pub mod Lines
pub mod Endings
pub mod Writes
pub mod Served
pub mod StatusOf
pub mod Dues
pub mod Shortages
