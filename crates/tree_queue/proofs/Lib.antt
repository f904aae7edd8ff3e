mod Sifts
pub mod EntryOrder
pub mod AddressLemmas
mod Views
mod Drops
