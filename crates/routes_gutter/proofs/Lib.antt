pub mod Planned
pub mod Supply
pub mod Askable
pub mod Emitted
pub mod Heights
pub mod Boards
pub mod Settling
