pub mod Mentioned
pub mod Linking
pub mod Dealing
