-- Why the store stays sound, and demand 3.
-- what packets do by their kinds; the fields of the cells in use as a view, and its stages
pub mod PacketKinds
pub mod Views
pub mod LegalPackets
pub mod Stages
-- the plain facts of a sound store, from S1 to S5 and back; its free chain, its reached cells, its slots not waiting
pub mod Facts
pub mod FreeChain
pub mod ReachedCells
pub mod ZeroSlots
-- fresh
pub mod FreshSound
-- the row calls
pub mod HeldCounts
pub mod NewPacket
pub mod RowQuestions
pub mod ReadUpDown
pub mod Replace
pub mod Cons
pub mod RowWrites
pub mod RowSound
-- the step
pub mod OldestPacket
pub mod NameCounts
pub mod Masks
pub mod FreedCells
pub mod StepSound
pub mod RootsWhenTaken
pub mod WhatWasReached
pub mod SuspectCells
pub mod LocalWay
-- every call; nothing trimmed; the code's tests
pub mod CallSound
pub mod Untrimmed
pub mod Stands
pub mod CodeTests
pub mod RaisedCells
-- text read
pub mod NamedTable
pub mod BuiltCells
pub mod FreeCells
pub mod TextRead
-- holds, demand 3, and that it bites
pub mod RootsAreHolds
pub mod Theorem
pub mod K1
pub mod Variants
pub mod ShortcutsBite
-- the order of a packet's changes moves nothing
pub mod EitherOrder
-- what a row programmer can rely on
pub mod FieldsStand
pub mod Unclipped
pub mod Reliable
