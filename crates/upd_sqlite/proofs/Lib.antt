mod OrderedTables
pub mod Trees
pub mod Queries
pub mod Frames
pub mod Shapes
pub mod Answers
pub mod Tests
pub mod Chains
