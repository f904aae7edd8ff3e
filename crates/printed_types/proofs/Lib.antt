pub mod PrintedNames
pub mod PrintableTypes
pub mod Nesting
pub mod ReadBack
