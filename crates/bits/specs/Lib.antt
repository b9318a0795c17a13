-- The definitions that the contracts of this crate cite, and the packed layout.
pub mod Bits
pub mod Packed
pub mod Put
pub mod Written
pub mod Window
pub mod View
