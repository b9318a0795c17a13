-- What the walk over a book notes.
pub mod Counts
pub mod Whole
