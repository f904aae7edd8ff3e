mod OpenedTypes
mod TheoremTypes
