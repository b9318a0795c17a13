-- The laws of the walk over terms.
pub mod Symbols
pub mod Nodes
pub mod Fillings
pub mod Arities
pub mod AlongSymbols
pub mod HeadsByFields
pub mod Powers
