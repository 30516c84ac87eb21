pub mod Laying
pub mod Pages
pub mod Search
