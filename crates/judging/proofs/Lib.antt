-- The laws of the judge over bytes.
pub mod Inputs
pub mod Opened
pub mod Promises
