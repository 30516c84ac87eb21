pub mod Hits
pub mod Listing
pub mod Finding
pub mod Boxing
pub mod Promise
