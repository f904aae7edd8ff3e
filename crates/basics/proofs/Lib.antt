pub mod PlacesOfImages
pub mod Tables
pub mod NamePlaces
pub mod Membership
