mod MajorArguments
mod DroppedPlaces
mod Offered
mod EachHypothesis
mod WholeRules
