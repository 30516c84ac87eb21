pub mod Fitting
pub mod Planned
pub mod PageRows
pub mod Reading
pub mod Calling
pub mod Surveying
