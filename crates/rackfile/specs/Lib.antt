pub mod Files
pub mod Refusals
pub mod Reports
