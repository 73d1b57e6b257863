-- What the tests of good form cite: each element of a list passes where each number below its length does (Each).
pub mod Each
