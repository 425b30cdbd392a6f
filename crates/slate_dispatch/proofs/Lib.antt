pub mod BoxLemmas
pub mod FirstReady
pub mod GroupLemmas
pub mod RunLemmas
pub mod TurnLemmas
