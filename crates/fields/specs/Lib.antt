-- A record: its bytes (Bytes), its form (Form), its fields (Fields, Blanks) and where they lie (Spans), and the numbers in them (Number, Decimal).
pub mod Bytes
pub mod Form
pub mod Fields
pub mod Blanks
pub mod Spans
pub mod Number
pub mod Decimal
