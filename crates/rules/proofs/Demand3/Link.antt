-- The link from the board to the machine over versions: tags in a window of 2^b versions (Tags), the shared words (Memory),
-- keep-words and open sequences (Keeping), how a process stands in both and when a step of one is a step of the other (Stands),
-- and that each place's step is, for each kind (One, Many).
pub mod Tags
pub mod Memory
pub mod Keeping
pub mod Stands
pub mod One
pub mod Many
