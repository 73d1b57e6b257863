-- The heading and the rows (Row), and how they are written into lent bytes (Writing).
pub mod Row
pub mod Writing
