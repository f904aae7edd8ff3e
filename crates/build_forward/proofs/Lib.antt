pub mod PremisePlaces
pub mod OpenedTuples
pub mod OfferedTuples
pub mod RefusedEquations
pub mod SameArguments
pub mod PassedTuples
pub mod WholeRules
mod Clashing
mod ClashedTuples
