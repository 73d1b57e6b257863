-- Bytes put into lent bytes (Put), and the fields of a line (Line).
pub mod Put
pub mod Line
