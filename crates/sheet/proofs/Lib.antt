-- Laws that belong to no one function.
pub mod Parts
pub mod Held
pub mod Numbers
pub mod Cells
pub mod Writing
pub mod Fields
pub mod Columns
pub mod Turns
pub mod Lines
pub mod Surveys
pub mod Walks
pub mod Keeping
pub mod Answers
pub mod ReadBack
pub mod Ranges
pub mod Accepted
pub mod Along
