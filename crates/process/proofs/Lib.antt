-- Two outcomes of an address are equal (Settled); a bit set or cleared is a sequence opened or closed (Bits).
pub mod Settled
pub mod Bits
