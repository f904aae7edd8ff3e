pub mod Among
pub mod Numbers
pub mod Found
pub mod Completed
pub mod After
pub mod Laws
