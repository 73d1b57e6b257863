-- A call, step by step: what a place tells of it (Told), where a process may stand in it after so many steps (Begun), and what each
-- step makes of that (Onward).
pub mod Told
pub mod Begun
pub mod Onward
