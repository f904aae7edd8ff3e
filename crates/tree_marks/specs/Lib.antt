pub mod TreeMarks
pub mod Fading
