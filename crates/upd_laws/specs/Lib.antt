pub mod PurgingBack
pub mod KeptCards
pub mod Soundness
pub mod ReadRuns
pub mod YankLines
