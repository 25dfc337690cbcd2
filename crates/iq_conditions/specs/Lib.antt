pub mod Conditions
pub mod Carried
pub mod Servers
pub mod PlanTexts
