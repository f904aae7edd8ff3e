mod Insides
mod Given
mod Moving
mod Ways
mod Theorems
