pub mod Elements
pub mod Classes
pub mod Connected
pub mod Renamed
pub mod Laws
