pub mod Counts
pub mod Tables
pub mod Variables
pub mod Arguments
pub mod Results
