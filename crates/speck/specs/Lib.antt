pub mod Speck
pub mod Facts
pub mod Laws
