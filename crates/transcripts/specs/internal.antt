pub mod OneCopy
