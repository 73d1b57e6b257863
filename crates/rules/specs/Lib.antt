-- The names of the types
pub mod Types
-- What is right: the sizes, a process changed, Figures 4 and 6, the step from each place, good form, the refusals, the entry rules
pub mod Sizes
pub mod Processes
pub mod Figure4
pub mod Figure6
pub mod Steps
pub mod GoodForm
pub mod Refusals
pub mod Entry
pub mod OneAccess
-- What contracts behind the entry points ask for
pub mod Bounds
pub mod InForm
-- What is printed of an answer; runs, and P1 to P10
pub mod Text
pub mod Answers
pub mod Runs
pub mod Statements
pub mod Schedules
-- Demand 3
pub mod Figure2
pub mod OwnSteps
pub mod Onlooker
pub mod Demand3
pub mod Demand3Runs
