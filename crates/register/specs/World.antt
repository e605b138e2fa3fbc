-- The system at one moment, what happens in it, and what each happening changes (01, 'Rehearsal').
--
-- In order: the world; the setup; what a step answers; events; what an event puts on channels, which channels drop, what it
-- leaves there; the next world and the answer. Which event a step is, and when it is refused, is in
-- `Steps`; nothing here refuses.
-- Assumes nothing.
use Rattle.std.specs.Prelude.{ℕ, Bool, true, false, cond, ◌&&◌, List, [], ◌∷◌, ◌++◌, eqb, Result, Ok, Err}
use Rattle.basics.specs.Update.{update}
use Rattle.refusal.specs.declared.Refusal.{Refusal}
use Rattle.message.specs.declared.Message.{Message}
use Rattle.message.specs.declared.Message.TheVariants.{GetInfo}
use Rattle.register.specs.declared.Answer.{Answer}
use Rattle.register.specs.declared.Answer.TheVariants.{Went}
use Rattle.register.specs.declared.Phase.{Phase}
use Rattle.register.specs.Settings.{Settings, servers, is_server}
use Rattle.register.specs.Server.{Server, new_server, next_server, server_sends, sent_to}
use Rattle.register.specs.Client.{Client, new_client, next_read, started, Response, client_takes}

-- servers and clients by number; which clients have stopped; up d k is the channel (01: wire) from client d
-- to server k, down d k the one from server k to client d, the oldest message first
pub record World : Type 0 where
  pub servers : ℕ → Server
  pub clients : ℕ → Client
  pub stopped : ℕ → Bool
  pub up : ℕ → ℕ → List Message
  pub down : ℕ → ℕ → List Message

-- the setup: every channel is empty
abbrev pub new_world : World
new_world =
    record {
      servers = λ k. new_server;
      clients = λ d. new_client;
      stopped = λ d. false;
      up = λ d k. [];
      down = λ d k. [];
    }

-- what a step answers: one of 01's answers, or a refusal
abbrev pub StepAnswer : Type 0
StepAnswer = Result Answer Refusal

-- what can happen: nothing, for a refusal; client d starts in a phase (R, W); server k serves a message of
-- client d (K), client d takes a message of server k (D), and leaves the rest; client d stops (C); faulty
-- server k puts a message on its channel to d (L)
pub data Event : Type 0 where
  refuses : Refusal → Event
  begins : ℕ → Phase → Event
  serves : (k d : ℕ) → Message → List Message → Event
  takes : (d k : ℕ) → Message → List Message → Event
  stops : ℕ → Event
  lies : (k d : ℕ) → Message → Event

module _ (settings : Settings) where
  -- the response of client d to a message of server k
  abbrev pub response_of : World → ℕ → ℕ → Message → Response
  response_of world d k message = client_takes (servers settings) settings.f d (world.clients d) k message

  -- what an event, with its own client d' and server k', puts on the channel from client d to server k
  unfoldable pub puts_up : World → Event → ℕ → ℕ → List Message
  puts_up world (refuses refusal) d k = []
  puts_up world (begins d' phase) d k =
      cond (eqb d' d && is_server settings k) (GetInfo (next_read (world.clients d')) ∷ []) []
  puts_up world (serves k' d' message rest) d k = []
  puts_up world (takes d' k' message rest) d k =
      cond (eqb d' d && is_server settings k) (response_of world d' k' message).sends []
  puts_up world (stops d') d k = []
  puts_up world (lies k' d' message) d k = []

  -- what an event puts on the channel from server k to client d
  unfoldable pub puts_down : World → Event → ℕ → ℕ → List Message
  puts_down world (refuses refusal) d k = []
  puts_down world (begins d' phase) d k = []
  puts_down world (serves k' d' message rest) d k =
      cond (eqb k' k) (sent_to d (server_sends (world.servers k') d' message)) []
  puts_down world (takes d' k' message rest) d k = []
  puts_down world (stops d') d k = []
  puts_down world (lies k' d' message) d k = cond (eqb k' k && eqb d' d) (message ∷ []) []

  -- what an event leaves on a channel: K and D take the oldest message off, C empties those to its client
  unfoldable pub leaves_up : World → Event → ℕ → ℕ → List Message
  leaves_up world (refuses refusal) d k = world.up d k
  leaves_up world (begins d' phase) d k = world.up d k
  leaves_up world (serves k' d' message rest) d k = cond (eqb k' k && eqb d' d) rest (world.up d k)
  leaves_up world (takes d' k' message rest) d k = world.up d k
  leaves_up world (stops d') d k = world.up d k
  leaves_up world (lies k' d' message) d k = world.up d k

  unfoldable pub leaves_down : World → Event → ℕ → ℕ → List Message
  leaves_down world (refuses refusal) d k = world.down d k
  leaves_down world (begins d' phase) d k = world.down d k
  leaves_down world (serves k' d' message rest) d k = world.down d k
  leaves_down world (takes d' k' message rest) d k = cond (eqb k' k && eqb d' d) rest (world.down d k)
  leaves_down world (stops d') d k = cond (eqb d' d) [] (world.down d k)
  leaves_down world (lies k' d' message) d k = world.down d k

  -- a message put on a channel to a faulty server or to a stopped client is dropped
  unfoldable pub next_up : World → Event → ℕ → ℕ → List Message
  next_up world event d k = leaves_up world event d k ++ cond (settings.faulty k) [] (puts_up world event d k)

  unfoldable pub next_down : World → Event → ℕ → ℕ → List Message
  next_down world event d k =
      leaves_down world event d k ++ cond (world.stopped d) [] (puts_down world event d k)

  -- the servers, the clients and the stopped after an event
  unfoldable pub next_servers : World → Event → ℕ → Server
  next_servers world (refuses refusal) = world.servers
  next_servers world (begins d' phase) = world.servers
  next_servers world (serves k' d' message rest) =
      update world.servers k' (next_server (world.servers k') d' message)
  next_servers world (takes d' k' message rest) = world.servers
  next_servers world (stops d') = world.servers
  next_servers world (lies k' d' message) = world.servers

  unfoldable pub next_clients : World → Event → ℕ → Client
  next_clients world (refuses refusal) = world.clients
  next_clients world (begins d' phase) = update world.clients d' (started (world.clients d') phase)
  next_clients world (serves k' d' message rest) = world.clients
  next_clients world (takes d' k' message rest) =
      update world.clients d' (response_of world d' k' message).client
  next_clients world (stops d') = world.clients
  next_clients world (lies k' d' message) = world.clients

  unfoldable pub next_stopped : World → Event → ℕ → Bool
  next_stopped world (refuses refusal) = world.stopped
  next_stopped world (begins d' phase) = world.stopped
  next_stopped world (serves k' d' message rest) = world.stopped
  next_stopped world (takes d' k' message rest) = world.stopped
  next_stopped world (stops d') = update world.stopped d' true
  next_stopped world (lies k' d' message) = world.stopped

  -- the world after an event
  unfoldable pub apply : World → Event → World
  apply world event =
      record {
        servers = next_servers world event;
        clients = next_clients world event;
        stopped = next_stopped world event;
        up = next_up world event;
        down = next_down world event;
      }

  -- the answer of a step: WENT, or a client's to a message (READ, WROTE, SPENT), or REFUSED 4 to 12
  unfoldable pub answer_of : World → Event → StepAnswer
  answer_of world (refuses refusal) = Err refusal
  answer_of world (begins d' phase) = Ok Went
  answer_of world (serves k' d' message rest) = Ok Went
  answer_of world (takes d' k' message rest) = Ok (response_of world d' k' message).answer
  answer_of world (stops d') = Ok Went
  answer_of world (lies k' d' message) = Ok Went
