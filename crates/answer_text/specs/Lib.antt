pub mod Texts
pub mod Parts
pub mod Writable
pub mod Seen
