pub mod InRange
pub mod LevelRange
pub mod PlanRange
pub mod Deliveries
pub mod PlanWritten
pub mod SheetRoom
pub mod Lines
pub mod PlanText
