pub mod Taps
pub mod Asking
