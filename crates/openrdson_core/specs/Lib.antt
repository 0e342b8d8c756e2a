-- The definitions that the contracts cite, most of them one file a source file. The numbers in a definition's comment are refusals (Refusals), in the order
-- in which they are tried.
pub mod Refusals
pub mod Points
pub mod Answers
pub mod Bounds
pub mod Area
pub mod Sums
pub mod Rectangle
pub mod Apart
pub mod Solids
pub mod Bytes
pub mod Blocks
pub mod Maps
pub mod Tech
pub mod Layout
pub mod SoundBlocks
pub mod Mesh
