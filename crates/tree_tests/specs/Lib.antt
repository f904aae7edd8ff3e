pub mod Tables
pub mod Doublings
