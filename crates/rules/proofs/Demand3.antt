-- Demand 3, proved: `Holds.holds : Demand3`, and `Holds.in_window : Demand3InWindow` under the weaker premise. The claim is
-- specs/Demand3.antt; docs/DEMAND3.md maps each phrase of the demand to its line. The layers:
--
-- what a function changed at one place does, and what a run keeps
pub mod Change
pub mod Runs
pub mod Owns
pub mod Called
-- 1. step counts, over the rules themselves, with no premise: `Steps.bounded`
pub mod Steps
-- 2. the rules over versions that never come round, in place of tags: a means of proof
pub mod Machine
pub mod Same
-- 3. its invariant, with no premise
pub mod Invariant
-- 4. the link: within a window of 2^b versions the board does what the machine does
pub mod Link
-- 5. runs: what it is for the board to stand for the machine (Means); it does from the fresh one on (Fresh), through every
--    event (Follow), so all along (Along); few stores in all make every sequence short (Window), so its answers are right
--    (Holds); runs that meet the premise, and one that shows it tight (Shown)
pub mod Means
pub mod Fresh
pub mod Follow
pub mod Along
pub mod Window
pub mod Holds
pub mod Shown
