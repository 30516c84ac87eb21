pub mod Drawn
pub mod LastKept
pub mod Straight
