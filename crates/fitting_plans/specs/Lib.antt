pub mod Transactions
pub mod Allocations
