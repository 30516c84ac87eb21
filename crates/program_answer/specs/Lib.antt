pub mod Answering
pub mod Telling
pub mod Promise
