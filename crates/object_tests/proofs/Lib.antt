pub mod Created
pub mod Grown
