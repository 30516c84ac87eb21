pub mod Lanes
pub mod Questions
pub mod Reaching
pub mod Answering
pub mod Told
pub mod Fronts
