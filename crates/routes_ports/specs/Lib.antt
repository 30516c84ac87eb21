pub mod Ports
pub mod Settling
