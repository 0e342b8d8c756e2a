-- Laws of the definitions, cited by this crate's proofs and by the crates above.
pub mod Ranges
pub mod Rings
pub mod ByteLaws
pub mod BlockLaws
pub mod LayoutLaws
pub mod Areas
pub mod SumLaws
pub mod Corners
pub mod BoundLaws
pub mod Apart
pub mod SolidAnswers
pub mod Shapes
pub mod MeshLaws
pub mod MeshShapes
