-- Lines in lent memory.
pub mod Parts
