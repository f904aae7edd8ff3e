pub mod NameBytes
pub mod Laws
