pub mod Leaving
pub mod RenamedLists
pub mod Laws
