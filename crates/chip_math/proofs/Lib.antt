pub mod Chipped
pub mod Memory
pub mod Written
pub mod Programmed
pub mod Placing
