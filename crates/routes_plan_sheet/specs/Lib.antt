pub mod Held
pub mod Fields
