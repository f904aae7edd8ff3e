pub mod Terminals
pub mod Productions
pub mod Nesting
pub mod Files
pub mod Reading
