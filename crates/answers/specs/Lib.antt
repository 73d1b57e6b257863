-- What each record prints and the printout of a whole input (Records, Run), document 01's listing (Listing); and how the code
-- answers a record on the one process that it moves (Order, Moves, Answering).
pub mod Records
pub mod Run
pub mod Listing
pub mod Order
pub mod Moves
pub mod Answering
