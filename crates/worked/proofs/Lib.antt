-- What the check unfolds in the programs of worked shapes.
pub mod OnShapes
