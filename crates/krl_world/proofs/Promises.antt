-- The laws `headline`, `within_the_bound`, `bound_is_the_table`, `serves_on` and `recoveries_end`.
pub mod CompatibilityAndScans
pub mod Written
pub mod Bounded
pub mod Recovery
pub mod TableBound
pub mod Kept
pub mod Closing
pub mod Unbroken
