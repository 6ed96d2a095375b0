pub mod Copies
pub mod Lines
pub mod ReturnTrip
pub mod internal
