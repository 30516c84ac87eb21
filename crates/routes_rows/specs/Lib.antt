pub mod Blocked
pub mod Booking
pub mod Entries
pub mod Notes
pub mod Turning
