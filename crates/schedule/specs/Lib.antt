-- A record gathered byte by byte (Gathering), bytes fed to a run (Feeding), and the whole input in any pieces (WholeInput); what the
-- contracts say (Longest, Ready, Feeds, Telling).
pub mod Gathering
pub mod Feeding
pub mod WholeInput
pub mod Longest
pub mod Ready
pub mod Feeds
pub mod Telling
