pub mod Lists
pub mod NoGoals
pub mod LastSteps
pub mod SameSteps
pub mod Scripts
