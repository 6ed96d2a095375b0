pub mod Plans
pub mod Stages
pub mod Words
pub mod Written
pub mod internal
