pub mod Among
pub mod Keys
pub mod Told
pub mod Filling
pub mod Filled
pub mod Answered
