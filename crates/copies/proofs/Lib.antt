pub mod Rounds
pub mod Books
