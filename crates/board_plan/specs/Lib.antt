pub mod TextPlan
pub mod PagesPlan
