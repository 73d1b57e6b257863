-- The listing's printout (Listing); that on a board in order an event is what it does to one process (OneProcess, OpenAfter), so
-- that what the code answers is what the record tells (EntryTold, Answering). Two outcomes of a call are equal (Settled).
pub mod Listing
pub mod OneProcess
pub mod OpenAfter
pub mod EntryTold
pub mod Answering
pub mod Settled
