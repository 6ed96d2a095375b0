pub mod Between
pub mod BoxTable
pub mod Expansion
pub mod Merged
pub mod Sealing
pub mod Spread
pub mod Swaps
