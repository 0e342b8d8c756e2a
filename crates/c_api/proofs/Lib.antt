-- Laws of the definitions, cited by this crate's proofs.
pub mod Same
pub mod Lookups
pub mod SolidCalls
pub mod Copies
pub mod Rows
pub mod StackRows
pub mod PolygonCalls
pub mod MeshCalls
