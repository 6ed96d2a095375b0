pub mod Below
pub mod Cycling
pub mod Words
