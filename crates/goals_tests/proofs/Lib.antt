mod Scopes
mod ShapedPairs
mod PutParts
mod Barred
mod OpenedOnce
