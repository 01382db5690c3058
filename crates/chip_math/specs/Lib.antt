pub mod Chips
pub mod Places
