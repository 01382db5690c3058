pub mod Stores
pub mod Places
pub mod Sizes
