-- What a server makes of a message, and of bytes that say they are one (01, 'Keeper' and the table).
--
-- In order: what it sends, to whom, in which order; a message served, by value and in memory; the refusals,
-- lowest first; bytes served.
-- Assumes nothing.
use Rattle.std.specs.Prelude.{ℕ, not, List, [], ◌∷◌, ◌++◌}
use Rattle.std.specs.Prelude.{Option, None, Some, Result, Ok, Err}
use Rattle.basics.specs.BitSets.{contains}
use Rattle.basics.specs.Tests.{is_up_to}
use Rattle.refusal.specs.declared.Refusal.{Refusal}
use Rattle.refusal.specs.Ladder.{Rung, ◌whenever◌, lowest}
use Rattle.message.specs.declared.Message.{Message}
use Rattle.message.specs.declared.Message.TheVariants.{GetInfo, Info, Done, WriteInfo, Fwd, WriteAck}
use Rattle.message.specs.Layout.{Unpacked}
use Rattle.message.specs.Layout.{unpack_of, goes_up}
use Rattle.message.specs.Pair.{counter}
use Rattle.register.specs.Server.{Sent, sent, forwards, next_server, server_sends}
use Rattle.register.specs.Settings.{most_clients}
use Rattle.server.specs.declared.Sends.{Sends}
use Rattle.server.specs.declared.Sends.TheVariants as sends
use Rattle.server.specs.declared.Served.{Served}
use Rattle.server.specs.declared.Server.{Server}
use Rattle.server.specs.State as state
use Rattle.server.specs.Memory.{loaded, view, store, is_sound}

-- the messages that an answer to client d stands for: to whom which, in order
unfoldable pub sent_by : ℕ → Sends → List Sent
sent_by d sends.Nothing = []
sent_by d (sends.Info tag pair) = sent d (Info tag pair) ∷ []
sent_by d (sends.Forward set pair) =
    forwards (contains set) pair most_clients ++ sent d (WriteAck (counter pair)) ∷ []

-- the answer by its kind: which one stands for what the server sends
unfoldable pub answer_of : Server → Message → Sends
answer_of server (GetInfo tag) = sends.Info tag server.pair
answer_of server Done = sends.Nothing
answer_of server (WriteInfo pair) = sends.Forward server.readers pair
answer_of server (Info tag pair) = sends.Nothing
answer_of server (Fwd pair) = sends.Nothing
answer_of server (WriteAck count) = sends.Nothing

-- a message served, by value: the next server, the answer, and the messages that it stands for
pub record After : Type 0 where
  pub server : Server
  pub answer : Sends
  pub sends : List Sent

-- what the code gives for a message of client d
abbrev pub after_of : ℕ → Served → After
after_of d served =
    record { server = served.server; answer = served.sends; sends = sent_by d served.sends }

-- the model's next server, and what the model's server sends
abbrev pub served_of : Server → ℕ → Message → After
served_of server d message =
    record {
      server = state.store (next_server (state.view server) d message);
      answer = answer_of server message;
      sends = server_sends (state.view server) d message;
    }

-- what serving gives: an answer with the messages that it stands for
pub record Given : Type 0 where
  pub answer : Sends
  pub messages : List Sent

abbrev pub given : Sends → List Sent → Given
given answer messages = record { answer = answer; messages = messages }

-- or a refusal; and the memory after it
pub record Became : Type 0 where
  pub result : Result Given Refusal
  pub memory : List ℕ

abbrev pub became : Result Given Refusal → List ℕ → Became
became result memory = record { result = result; memory = memory }

-- a message of client d served, in memory: the model's next server, and what the model's server sends
abbrev pub served_in : List ℕ → ℕ → Message → Became
served_in memory d message =
    became (Ok (given (answer_of (loaded memory) message) (server_sends (view memory) d message)))
    (store (next_server (view memory) d message))

-- what the code's answer stands for
unfoldable pub result_of : ℕ → Result Sends Refusal → Result Given Refusal
result_of d (Ok answer) = Ok (given answer (sent_by d answer))
result_of d (Err why) = Err why

-- 3 unsound memory; 4 a sender that is not 1 to 6; 9 not a message, or a reply
abbrev pub ladder : List ℕ → ℕ → List ℕ → List Rung
ladder memory d bytes =
    3 whenever not (is_sound memory)
    ∷ 4 whenever not (is_up_to most_clients d)
    ∷ 9 whenever not (goes_up (unpack_of bytes))
    ∷ []

-- 01's answer: the messages sent, or refused 3, 'spoiled', 4, 'nobody there', or 9, 'misprint'; a refusal
-- leaves the memory as it was
abbrev pub decided : List ℕ → ℕ → Option Refusal → Unpacked → Became
decided memory d (Some why) unpacked = became (Err why) memory
decided memory d None (Ok message) = served_in memory d message
decided memory d None (Err why) = became (Err why) memory

-- bytes of sender d served, or refused
unfoldable pub bytes_served : List ℕ → ℕ → List ℕ → Became
bytes_served memory d bytes = decided memory d (lowest (ladder memory d bytes)) (unpack_of bytes)
