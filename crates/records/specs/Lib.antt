-- What a record says, as the contracts cite it.
pub mod Words
pub mod Answers
