pub mod Permutations
pub mod Selections
pub mod internal
