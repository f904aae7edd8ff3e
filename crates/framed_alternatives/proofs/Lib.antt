pub mod Insides
pub mod Apart
pub mod Steps
pub mod Found
pub mod Builds
pub mod Normal
pub mod Choices
pub mod Laws
