-- What a begin makes of one process (OneProcess).
pub mod OneProcess
