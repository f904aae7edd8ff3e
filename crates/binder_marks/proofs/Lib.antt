mod PlacedMarks
pub mod MarkSteps
pub mod MarkPrefixes
mod BinderPlaces
