-- Theorems about the definitions of meshing.
pub mod Shapes
pub mod Crossing
pub mod WellFormed
pub mod ModelFormed
pub mod RegionSome
pub mod RefusalNumbers
pub mod ModelMarks
pub mod Welded
pub mod Lent
