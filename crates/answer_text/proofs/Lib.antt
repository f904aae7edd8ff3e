mod Pieces
mod Listed
