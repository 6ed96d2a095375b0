pub mod Fours
pub mod OneCall
