-- The definitions that the contracts cite. The numbers in a definition's comment are refusals (openrdson_core's specs/Refusals), in the order in which they
-- are tried.
pub mod Regions
pub mod Extrude
pub mod Volumes
pub mod Ranges
pub mod Plans
pub mod Table
pub mod Polygons
pub mod Stack
