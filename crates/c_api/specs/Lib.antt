-- What the exported functions give back.
pub mod Given
pub mod Lookups
pub mod Meshes
pub mod Polygons
pub mod Regions
pub mod Stacks
