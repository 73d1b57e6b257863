-- The invariant of the machine over versions, with no premise. First what it says: of those who stored since a load (Since), of
-- a variable and a process at it for each kind (Many, One), and for both under one name, with what is to be shown of a step
-- (Kinds). Then that the others' steps keep it (Stable), that each own step gives it again (OneStep), that a begin does
-- (Begin), and that so it holds of the whole machine (Whole).
pub mod Since
pub mod Many
pub mod One
pub mod Stable
pub mod Kinds
pub mod OneStep
pub mod Begin
pub mod Whole
