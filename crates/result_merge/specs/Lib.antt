pub mod Union
pub mod Laws
pub mod Merged
pub mod Steps
pub mod Tables
pub mod Parts
pub mod PlanLaws
