pub mod Asking
pub mod Claiming
pub mod Rooms
pub mod Walking
