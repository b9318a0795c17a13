-- The laws of the walk over a book.
pub mod Counting
pub mod Noting
pub mod Lookup
pub mod Whole
