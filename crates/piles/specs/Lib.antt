pub mod Fitting
pub mod Keyed
pub mod internal
