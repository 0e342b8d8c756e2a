-- The definitions that every crate's contracts cite.
pub mod Answer
pub mod Lists
pub mod Counts
pub mod Sorts
