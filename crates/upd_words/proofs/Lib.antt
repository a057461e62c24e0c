pub mod HelpLemmas
pub mod WordLemmas
pub mod PassedLemmas
pub mod CountLemmas
pub mod NamedLemmas
