pub mod GroupLaws
pub mod PageLaws
pub mod PlanLaws
