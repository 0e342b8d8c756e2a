-- What the checks ask of an answer.
pub mod Asked
