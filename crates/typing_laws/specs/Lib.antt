pub mod TypedReplacements
pub mod Laws
pub mod ClosedTypes
pub mod InstantiationLaws
pub mod GoalLaws
pub mod EtaLaws
