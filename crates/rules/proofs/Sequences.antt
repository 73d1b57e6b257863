-- Open sequences as a mask: what opening does (Masks), what closing does (Closing), and what both do to the open count (Counts).
pub mod Masks
pub mod Closing
pub mod Counts
