-- What the check unfolds in this program.
pub mod OnRings
