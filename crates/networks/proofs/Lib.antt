pub mod Folds
pub mod Kept
pub mod Splits
pub mod TwoWays
