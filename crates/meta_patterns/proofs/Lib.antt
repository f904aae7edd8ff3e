pub mod Readings
pub mod Mentioned
pub mod OwnVariables
pub mod Tables
pub mod UnderBinders
pub mod Placings
