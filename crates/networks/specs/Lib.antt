pub mod Fours
pub mod HalfWords
pub mod Halves
pub mod Inverses
pub mod Networks
pub mod Rounds
pub mod internal
