pub mod Prefixes
pub mod Forms
pub mod Unique
pub mod Order
pub mod Places
pub mod Longest
mod Lexemes
mod Cutting
pub mod Utf8
