-- What is right of words: the refusals and their numbers, the word, and packing; and what is proved of packing.
pub mod Refusals
pub mod Word
pub mod Packing
pub mod Statements
