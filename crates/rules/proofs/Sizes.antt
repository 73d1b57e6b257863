-- The sizes: settings that pass the check are within them (Sized), and each shared word has its own address among the words
-- used (Addresses).
pub mod Sized
pub mod Addresses
