-- The values of a store (Values), and records computed (Cases).
pub mod Values
pub mod Cases
