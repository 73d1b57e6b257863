-- Refusals: what a passed check says (Checked, Served), that a refusal is given exactly where the check finds it and changes
-- nothing (Refusing), and that past the checks a step is that of one process (OneProcess).
pub mod Checked
pub mod Served
pub mod Refusing
pub mod OneProcess
