pub mod LineLemmas
pub mod BatchLemmas
pub mod BoundLemmas
pub mod ScriptLemmas
