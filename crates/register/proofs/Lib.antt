-- The proof of demand 3, in the order in which it is read; the header of each file tells its part of the
-- argument.
--
-- What the proof stands on: counting servers, accepted settings, what an accepted event was checked for, a
-- run.
pub mod Vocabulary
pub mod Counted
pub mod Ladders
pub mod Bounds
pub mod Lawful
pub mod Enabled
pub mod Run
-- One client's sets and its choice.
pub mod PairSets
pub mod Choice
-- One event: what is sent, what a client makes of a message, what changes and what stays.
pub mod Dropping
pub mod Sends
pub mod Outcomes
pub mod Frames
pub mod Channels
pub mod Carried
pub mod ClientFacts
pub mod Turns
pub mod PutCases
-- Every reachable world is well formed, and no D is refused for want of room.
pub mod WellServer
pub mod WellClient
pub mod Rooms
pub mod WellChannels
pub mod Reachable
pub mod NeverFull
-- Operations from their beginning to their end.
pub mod Since
pub mod ReadStatus
pub mod WriteStatus
pub mod Open
-- What holds at every step: timestamps, messages on the way, what was told and acknowledged.
pub mod Grows
pub mod Low
pub mod Fresh
pub mod Entries
pub mod Acknowledged
pub mod Delivered
pub mod Genuine
-- Safety: lemmas 5.3 and 5.4 of document 001, one timestamp for one write, and the rows.
pub mod NotOld
pub mod Ordered
pub mod Unique
pub mod OnePair
pub mod SentWrites
pub mod Rows
pub mod Translation
pub mod OneEnd
pub mod Finished
pub mod Regular
-- Liveness: a quiet client has nothing open.
pub mod Infos
pub mod Waiting
pub mod WaitingTakes
pub mod Live
pub mod WaitingRun
pub mod Awaiting
pub mod Still
pub mod Quiet
-- The theorem, what else it gives, uses of its statement, and runs that it is about.
pub mod Formats
pub mod Theorem
pub mod WellAnswered
pub mod OwnPair
pub mod Consequences
pub mod Uses
pub mod Runs
