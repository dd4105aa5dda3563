pub mod Changed
pub mod EvenIndex
