pub mod Whitening
