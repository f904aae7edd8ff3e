pub mod Addresses
pub mod Choices
pub mod Spent
pub mod Places
pub mod Carried
pub mod After
pub mod Scripts
