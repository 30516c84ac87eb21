pub mod Answers
pub mod Program
pub mod Promise
