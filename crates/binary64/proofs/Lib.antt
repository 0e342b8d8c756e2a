-- Laws of the definitions, cited by this crate's proofs and by the crates above.
pub mod Values
pub mod Sizes
pub mod Order
pub mod NotNumbers
pub mod Signs
pub mod Differences
pub mod KeySorts
pub mod Ceilings
pub mod Halves
pub mod WholeRoots
pub mod RoundedRoots
pub mod Patterns
pub mod NearestRoot
pub mod LibraryRoot
pub mod SquareRoots
pub mod Shapes
