pub mod Cut
pub mod Hex
pub mod Keys
pub mod Runs
pub mod Tally
pub mod Vector
