-- What good form gives the code at each place (Places).
pub mod Places
