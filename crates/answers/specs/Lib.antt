-- What the operations answer, in 01's numbers, and the table of all refusals.
pub mod Numbers
pub mod Carried
pub mod InTable
pub mod Text
