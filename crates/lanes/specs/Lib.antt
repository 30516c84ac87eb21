pub mod Lanes
pub mod LaneCall
pub mod Keys
pub mod Table
pub mod Apart
pub mod Examples
