pub mod TableRules
pub mod Joined
