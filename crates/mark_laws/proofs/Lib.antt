pub mod Entries
pub mod Places
pub mod Meaning
pub mod Found
pub mod Decided
pub mod Laws
