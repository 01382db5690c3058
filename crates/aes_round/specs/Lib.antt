pub mod Tables
pub mod Directions
