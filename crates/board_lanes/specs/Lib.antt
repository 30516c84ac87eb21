pub mod PagePlan
