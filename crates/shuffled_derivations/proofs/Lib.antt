pub mod Lists
pub mod Insides
pub mod Alike
pub mod Shuffled
pub mod Joined
pub mod Children
pub mod Laws
