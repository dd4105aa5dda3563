pub mod Bytes
pub mod ChangeHolds
pub mod Filled
pub mod Packing
pub mod Pushed
pub mod ReadBack
