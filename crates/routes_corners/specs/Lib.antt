pub mod Answering
pub mod CornerTables
pub mod Handed
pub mod Listing
pub mod Ports
pub mod Turning
pub mod Writing
