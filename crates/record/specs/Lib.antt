-- The acts and kinds (Words), the first record (Setup), and the later ones (Entries).
pub mod Words
pub mod Setup
pub mod Entries
