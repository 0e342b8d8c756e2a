-- What stands in a list before anything is written in it.
pub mod Nines
