pub mod Lists
pub mod Numbers
pub mod NormalForms
pub mod Alternatives
pub mod Laws
