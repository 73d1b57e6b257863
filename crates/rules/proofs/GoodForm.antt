-- Good form: what it gives at each place (Held); that a step keeps it, of its process (Sounds) and of the words (Written), place
-- by place (Kept); that a begin does (FirstPlace); so of the whole board (Keeps), from a fresh one on (Fresh), through any
-- events (Runs).
pub mod Held
pub mod Sounds
pub mod Written
pub mod Kept
pub mod FirstPlace
pub mod Keeps
pub mod Fresh
pub mod Runs
