pub mod Quick
pub mod QuickIsRules
pub mod Table
