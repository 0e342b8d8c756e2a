-- Worked shapes.
pub mod Shapes
