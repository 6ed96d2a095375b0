pub mod Fitting
pub mod Sealing
