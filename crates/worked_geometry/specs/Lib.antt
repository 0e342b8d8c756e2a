-- The region list of the totals.
pub mod Expected
