pub mod Fields
pub mod Records
pub mod Table
pub mod Writing
pub mod ReadBack
pub mod Places
