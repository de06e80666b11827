mod Pieces
mod Reading
