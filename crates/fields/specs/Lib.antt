-- Sources of fields, grammars over them, and runs of grammars.
pub mod Source
pub mod Kinds
pub mod Grammar
pub mod Asks
pub mod Run
pub mod Along
pub mod Copying
pub mod Spells
pub mod Faults
