-- What the check unfolds in the programs of meshes.
pub mod OnRegions
pub mod OnPrisms
pub mod OnModels
pub mod OnWhole
