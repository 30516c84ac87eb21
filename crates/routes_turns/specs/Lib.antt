pub mod Deciding
pub mod CornerItems
pub mod Told
