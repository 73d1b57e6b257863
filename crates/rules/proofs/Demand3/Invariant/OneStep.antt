-- One step of a process keeps the invariant: what many steps leave as it was (Leaving); kind `many`, a load's first step and a
-- validate (Loading), a store before its Copy (Storing), Copy at a segment (Copying) and its last step there (SegmentEnd); kind
-- `one` (OneWord); and all of them under one name (EachPlace).
pub mod Leaving
pub mod Loading
pub mod Storing
pub mod Copying
pub mod SegmentEnd
pub mod OneWord
pub mod EachPlace
