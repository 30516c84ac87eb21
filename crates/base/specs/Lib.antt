pub mod Digits
pub mod Growing
pub mod Keys
pub mod Lists
pub mod Refusal
pub mod Runs
pub mod Sort
pub mod Views
