pub mod Below
pub mod Filling
pub mod Passes
