-- What is shown by computation from the rules (Computing): P1 to P10 (Schedules); the slips that look right, where those do not
-- show them (Slips); the order of the refusals (RefusalOrder); and each clause of good form (FormCases).
pub mod Computing
pub mod Schedules
pub mod Slips
pub mod RefusalOrder
pub mod FormCases
