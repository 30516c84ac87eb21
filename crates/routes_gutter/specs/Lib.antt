pub mod Lay
pub mod Bus
pub mod Calls
