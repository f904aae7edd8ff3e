mod StillRuns
mod SharedRuns
mod Crossing
