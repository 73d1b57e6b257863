-- Facts about words over any b (Laws), what packing and unpacking tell and that they undo each other (Packing), and their
-- limits in numbers (Cases); the statements stand in specs/Statements.antt. For every crate: that a contract which is an
-- equation allows one outcome (OneOutcome); and what the kit's words come to that specs/ use (KitWords).
pub mod Laws
pub mod Packing
pub mod Cases
pub mod OneOutcome
pub mod KitWords
