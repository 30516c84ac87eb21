pub mod InNumbers
pub mod Verdict
pub mod SheetCalls
pub mod BusCalls
pub mod MiniCall
pub mod HitsCall
pub mod PlanCall
pub mod AnswerCall
