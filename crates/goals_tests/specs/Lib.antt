pub mod Settings
pub mod OpenedExample
