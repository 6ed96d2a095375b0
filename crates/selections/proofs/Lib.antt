pub mod Inverse
pub mod Linear
pub mod Picked
