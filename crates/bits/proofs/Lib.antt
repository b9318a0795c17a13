-- Laws of bits and bytes, the promises of the packed layout, and what the code's proofs lean on.
pub mod Numbers
pub mod Bytes
pub mod Groups
pub mod Fitting
pub mod PackedFields
pub mod OnlyPacked
pub mod Puts
pub mod InOrder
pub mod Windows
pub mod Views
pub mod Weaving
pub mod Shifts
pub mod Stores
pub mod Examples
