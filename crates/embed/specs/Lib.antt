-- The promises of the door: answers as numbers, and what is left in lent memory.
pub mod Numbers
pub mod Promises
