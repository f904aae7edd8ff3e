mod PutHeads
mod ReachedLists
mod Theorems
