-- The words of the definitions, gathered for the proofs of this crate and of those above it, so that a file
-- imports them in a line or two. Nothing is defined here.
-- Assumes nothing.
unfoldable pub use Rattle.basics.specs.BitSets.{set_of, contains}
unfoldable pub use Rattle.basics.specs.Bytes.{spelt}
unfoldable pub use Rattle.basics.specs.Counting.{count_below}
pub use Rattle.basics.specs.Members.{Member, At}
pub use Rattle.basics.specs.Tables.{part_at}
unfoldable pub use Rattle.basics.specs.Tables.{listed, tabled}
pub use Rattle.basics.specs.Tests.{all_pass, is_up_to}
unfoldable pub use Rattle.basics.specs.Tests.{all_below}
unfoldable pub use Rattle.basics.specs.Update.{update}
pub use Rattle.std.specs.Prelude.{Result, Ok, Err}
pub use Rattle.refusal.specs.declared.Refusal.{Refusal}
pub use Rattle.refusal.specs.Ladder.{Rung, lowest}
pub use Rattle.message.specs.declared.Entry.{Entry}
pub use Rattle.message.specs.declared.Message.{Message}
pub use Rattle.message.specs.declared.Message.TheVariants.{GetInfo, Info, Done, WriteInfo, Fwd, WriteAck}
pub use Rattle.message.specs.declared.Pair.{Pair}
pub use Rattle.message.specs.declared.ReadNumber.{ReadNumber}
pub use Rattle.message.specs.Layout.{Unpacked}
pub use Rattle.message.specs.declared.Words.{Words}
pub use Rattle.message.specs.declared.WriteCounter.{WriteCounter}
pub use Rattle.message.specs.Layout.{last_read, words_number, tag_bits, words, goes_up, counter_bits, client_bits}
pub use Rattle.message.specs.Layout.{entry_bits, last_counter, goes_down}
unfoldable pub use Rattle.message.specs.Layout.{words_of, goes, message_of, well_formed, unpack_of}
pub use Rattle.message.specs.Pair.{initial, below, same, pair_bits, stamp_bits}
unfoldable pub use Rattle.message.specs.Pair.{stamp, counter, client, entry, pair_of}
pub use Rattle.register.specs.declared.Answer.{Answer}
pub use Rattle.register.specs.declared.Answer.TheVariants.{Went, Read, Wrote, Spent}
pub use Rattle.register.specs.declared.Phase.{Phase}
pub use Rattle.register.specs.declared.Phase.TheVariants.{Idle, Reading, ReadingForWrite, Storing}
pub use Rattle.register.specs.Settings.{Settings, Accepted, servers, capacity, most_clients, most_servers}
pub use Rattle.register.specs.Settings.{most_faulty, least_servers, are_servers_in_range}
unfoldable pub use Rattle.register.specs.Settings.{is_honest, is_client, is_server, in_range, setup_refusal}
pub use Rattle.register.specs.Thresholds.{counted, enough}
unfoldable pub use Rattle.register.specs.PairSet.{has, add, insert}
pub use Rattle.register.specs.Server.{Server, Sent, sent, new_server}
unfoldable pub use Rattle.register.specs.Server.{next_server, server_sends, sent_to, stored, forwards}
pub use Rattle.register.specs.Client.{Client, Response, cleared, set_limit, sends_nothing, new_client}
unfoldable pub use Rattle.register.specs.Client.{started, entry_of, with_ack, next_read, is_noted, is_at_most}
unfoldable pub use Rattle.register.specs.Client.{chosen, with_pair, with_info, is_idle, is_reading}
unfoldable pub use Rattle.register.specs.Client.{client_takes, higher, highest_of, all_pairs, counts}
unfoldable pub use Rattle.register.specs.Client.{is_storing, uses_info, concluded, after_choice}
unfoldable pub use Rattle.register.specs.Client.{acknowledged}
pub use Rattle.register.specs.World.{World, Event, takes, stops, response_of, refuses, begins, serves}
pub use Rattle.register.specs.World.{lies, new_world, StepAnswer}
unfoldable pub use Rattle.register.specs.World.{apply, next_stopped, puts_up, puts_down, leaves_up}
unfoldable pub use Rattle.register.specs.World.{leaves_down, next_up, next_down, next_servers, next_clients}
unfoldable pub use Rattle.register.specs.World.{answer_of}
pub use Rattle.register.specs.Steps.{Formats, Step, R, W, K, D, C, L}
unfoldable pub use Rattle.register.specs.Steps.{oldest, has_room, room_up, room_down, ladder, refusal_of}
unfoldable pub use Rattle.register.specs.Steps.{accepted, event_of, is_empty}
pub use Rattle.register.specs.Formats.{formats}
pub use Rattle.register.specs.History.{AnswersRead, AnswersWrite, ReadEnds, WriteEnds, Sends, PairOf}
pub use Rattle.register.specs.History.{ReadBegins, step_at, answer_at, WriteBegins, HasSent}
unfoldable pub use Rattle.register.specs.History.{world_at}
pub use Rattle.register.specs.DemandThree.{Earlier, Legal, first, behind, Row}
pub use Rattle.register.specs.WellFormed.{FromClient, FromServer, WellPhase, WellClient, WellServer}
pub use Rattle.register.specs.WellFormed.{WellFormed}
