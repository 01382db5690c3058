pub mod Aes128
pub mod Schedule
pub mod Facts
pub mod BlockLaws
