pub mod Placed
pub mod Puts
pub mod Same
pub mod Tests
