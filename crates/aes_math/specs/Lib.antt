pub mod Field
pub mod Rounds
pub mod Parts
pub mod Facts
