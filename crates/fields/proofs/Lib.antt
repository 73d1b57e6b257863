-- Laws of fields (Splits, BlankFields), of where they lie (FieldSpans) and of numbers (Numbers, Decimals); that the contracts of
-- `field` and `body` settle the part (Settled), that a number written is read back (RoundTrip), that a record in form has seven
-- fields, one after the other (SevenFields), and records computed (Cases).
pub mod Splits
pub mod FieldSpans
pub mod BlankFields
pub mod Numbers
pub mod Decimals
pub mod RoundTrip
pub mod SevenFields
pub mod Settled
pub mod Cases
