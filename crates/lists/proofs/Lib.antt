-- Laws of the definitions, cited by the crates above: one file a kind of loop, and one of answers.
pub mod Answers
pub mod Fills
pub mod Copies
pub mod Joined
pub mod Folds
pub mod Scans
pub mod Searches
pub mod Places
pub mod Stores
pub mod Parts
pub mod Counts
pub mod Passing
pub mod Sorts
