-- The laws of the walk by bits.
pub mod Seqs
pub mod Taking
pub mod Joins
pub mod Headings
pub mod Powers
pub mod Scanners
pub mod ScannerHeads
pub mod Whole
