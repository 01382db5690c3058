pub mod Names
pub mod Lines
pub mod Records
pub mod Rounds
