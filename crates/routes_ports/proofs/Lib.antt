pub mod SetLaws
pub mod Filling
pub mod Reading
pub mod Laid
pub mod Calling
