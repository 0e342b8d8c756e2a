-- Laws of the definitions, cited by this crate's proofs and by the crates above.
pub mod RegionLaws
pub mod RingLaws
pub mod VolumeLaws
pub mod TableLaws
pub mod PolygonLaws
pub mod RowLaws
pub mod StackLaws
pub mod AssembleLaws
pub mod GeometryShapes
pub mod StackShapes
