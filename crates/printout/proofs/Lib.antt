-- A row put together from its fields (Rows), that none is longer than 159 bytes (Longest), rows computed (Cases), and that two
-- outcomes of a call are equal (Settled).
pub mod Rows
pub mod Longest
pub mod Cases
pub mod Settled
