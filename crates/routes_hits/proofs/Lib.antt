pub mod Hitting
pub mod Picking
pub mod Listing
pub mod Calling
pub mod Exact
pub mod Promise
