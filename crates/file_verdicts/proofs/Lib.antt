mod FaultPlaces
mod Verdicts
