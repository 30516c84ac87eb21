pub mod Turn
pub mod Finish
pub mod Route
pub mod Mini
