pub mod Xts
pub mod Facts
pub mod Laws
pub mod Doubling
