-- A begin of a board that can be served is that of its one process (Served).
pub mod Served
