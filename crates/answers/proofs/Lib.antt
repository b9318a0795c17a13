-- The laws of the answers: what a number carries, the table of refusals, and that 01's numbers tell the answer.
pub mod Carrying
pub mod InTable
pub mod Inverses
pub mod Refusing
