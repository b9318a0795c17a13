-- The walk by bits alone, what a node's head comes to, and what is noted of a book.
pub mod Glance
pub mod Scanning
pub mod Headings
pub mod Counts
