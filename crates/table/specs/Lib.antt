-- What the words of the work table tell, what a push does to a side, and what a second side amounts to beside it.
pub mod Places
pub mod Nodes
pub mod Sides
pub mod Marks
pub mod Answer
pub mod Repeats
pub mod Second
