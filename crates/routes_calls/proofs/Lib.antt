pub mod Finishing
pub mod Turning
pub mod Adding
pub mod Routing
pub mod MiniLaws
