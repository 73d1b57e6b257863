-- What waits to be written and what was written (Outputs), what was read (Inputs), and the program between two reads, from its
-- start to its end (Points).
pub mod Outputs
pub mod Inputs
pub mod Points
