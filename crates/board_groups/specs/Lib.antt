pub mod Collecting
pub mod Shares
