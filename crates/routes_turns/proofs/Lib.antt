pub mod Decided
pub mod InRow
pub mod Searching
pub mod Cells
pub mod Levels
pub mod Answers
pub mod Told
