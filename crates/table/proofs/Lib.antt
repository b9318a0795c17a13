-- The laws of the table, each above the one before.
pub mod Nodes
pub mod Writes
pub mod Loads
pub mod Pushing
pub mod Sides
pub mod Reindexing
pub mod Answer
pub mod Parting
pub mod Repeats
pub mod Holding
pub mod Copies
pub mod Marks
