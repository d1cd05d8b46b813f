mod Cut
mod Pieces
mod Columns
