-- Bytes put after one another (Puts), and how many digits a number has and which (Counting, Digits). Two outcomes of a writer are
-- equal (Settled).
pub mod Puts
pub mod Counting
pub mod Digits
pub mod Settled
