pub mod AppendLemmas
pub mod NumberLemmas
pub mod WordLemmas
