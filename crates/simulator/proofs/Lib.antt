-- What was written is counted (Outputs), bytes are taken from one point to another (Points), from the first (Beginnings), read by
-- read (Readings), and a run ends (Endings); no run reads or writes nothing (Idle).
pub mod Outputs
pub mod Points
pub mod Beginnings
pub mod Readings
pub mod Endings
pub mod Idle
