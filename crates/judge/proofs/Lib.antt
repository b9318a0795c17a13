-- The laws of what the program takes from its input, and of its line.
pub mod Printing
pub mod Taking
