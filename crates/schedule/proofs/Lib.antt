-- Laws of gathering and feeding (Gathering, Feeding); that a record kept in the line tells what the whole record does (Kept), so that
-- a run owes just the rows still to come (Owed), and the whole input is printed however it is cut (WholeInput). For the code: what
-- a record tells (Tellings), one record of a chunk (FedOn, RunningOn, Progress), the end (Finishing). For callers: Callers, Takes, Longest, and
-- that two outcomes of a call are equal (Settled).
pub mod Gathering
pub mod Feeding
pub mod Kept
pub mod Owed
pub mod WholeInput
pub mod Tellings
pub mod FedOn
pub mod RunningOn
pub mod Progress
pub mod Finishing
pub mod Callers
pub mod Takes
pub mod Longest
pub mod Settled
