pub mod Onwards
pub mod Sieves
pub mod Clashes
