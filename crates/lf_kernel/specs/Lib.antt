pub mod LocalContexts
pub mod Checks
pub mod Stripping
pub mod Heads
pub mod ShapedPlaces
pub mod Results
pub mod Adding
