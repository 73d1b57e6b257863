-- What a step changes and what it leaves alone: in document 01's words (Places), of its process and the words at each place
-- (Frame), through one access (Access), among the words used (Reach), and at the entry points (Leaves).
pub mod Places
pub mod Frame
pub mod Access
pub mod Reach
pub mod Leaves
