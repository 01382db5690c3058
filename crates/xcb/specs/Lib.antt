pub mod Xcb
pub mod Facts
pub mod Laws
