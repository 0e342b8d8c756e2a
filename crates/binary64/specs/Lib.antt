-- The definitions on binary64 numbers that every crate's contracts cite.
pub mod Numbers
pub mod Constants
pub mod Rounding
pub mod Root
pub mod NearestRoot
