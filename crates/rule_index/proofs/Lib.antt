mod Demands
mod Nodes
mod Levels
mod Trees
mod Picking
