pub mod CheckLemmas
pub mod DemoLemmas
pub mod EncodeLemmas
pub mod GuessLemmas
pub mod StatusLemmas
pub mod WordLemmas
