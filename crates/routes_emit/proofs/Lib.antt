pub mod Next
pub mod Steps
