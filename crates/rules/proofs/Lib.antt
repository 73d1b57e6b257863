-- What is proved about the rules; Theorems names each theorem. The lemmas for tests and choices come first, then a folder for
-- each thing that is shown.
pub mod Tests
pub mod Branches
pub mod Calls
pub mod Sizes
pub mod Sequences
pub mod Refusals
pub mod Changes
pub mod GoodForm
pub mod Cases
pub mod Demand3
pub mod Stated
pub mod Theorems
