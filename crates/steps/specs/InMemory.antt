-- What each step does to the lent memory: the servers, the clients, the slots. It is the code's own account,
-- list by list; `proofs/` shows that it is the model's step on the world that the state stands for.
-- A reader of the public contracts needs none of it.
--
-- In order: room on channels; messages put on channels; what a step gives; R and W; K; D; C; L; one step. The
-- order of refusals is the model's ladder of each step (`register/specs/Ladders`), which is given the tests
-- on memory here.
-- Assumes nothing.
use Rattle.std.specs.Prelude.{ℕ, zero, suc, ◌+◌, ◌-◌, Bool, false, cond, not, ◌&&◌, ◌||◌, List, [], ◌∷◌, ◌≡◌, leb, eqb, length}
use Rattle.std.specs.Prelude.{Ok, Err}
use Rattle.basics.specs.Bytes.{spelt}
use Rattle.basics.specs.Tests.{all_below}
use Rattle.basics.specs.BitSets.{contains, set_of}
use Rattle.refusal.specs.Ladder.{Rung, lowest}
use Rattle.licence.specs.Entry.{is_licence}
use Rattle.message.specs.declared.Entry.{Entry}
use Rattle.message.specs.declared.Message.{Message}
use Rattle.message.specs.declared.Message.TheVariants.{GetInfo}
use Rattle.message.specs.declared.ReadNumber.{ReadNumber}
use Rattle.message.specs.Layout.{Unpacked}
use Rattle.message.specs.declared.Words.{Words}
use Rattle.message.specs.Layout.{unpack_of, words, words_of, last_read, goes_down}
use Rattle.register.specs.declared.Answer.TheVariants.{Went}
use Rattle.register.specs.declared.Phase.{Phase}
use Rattle.register.specs.declared.Phase.TheVariants.{Reading, ReadingForWrite}
use Rattle.register.specs.declared.Step.{Step}
use Rattle.register.specs.declared.Step.TheVariants as step
use Rattle.register.specs.Client as model
use Rattle.register.specs.Ladders.{read_ladder, write_ladder, serve_ladder, take_ladder, stop_ladder, lie_ladder}
use Rattle.register.specs.Server.{Server, Sent, sent_to, next_server, server_sends}
use Rattle.register.specs.Settings.{is_client, is_server, most_clients, capacity}
use Rattle.register.specs.World.{StepAnswer}
use Rattle.channel.specs.Memory.{count_at, put_on, removed, cleared}
use Rattle.server.specs.Memory as server
use Rattle.client.specs.Memory as client
use Rattle.state.specs.declared.Settings.{Settings}
use Rattle.state.specs.State.{settings_of, bytes_in, server_at, put_server, put_stopped, client_at, put_client}
use Rattle.state.specs.State.{up_index, down_index}
use Rattle.state.specs.State.{message_at}
use Rattle.state.specs.State as state
pub use Rattle.steps.specs.After.{After, after, unless}

-- ---- room

-- every channel from the client at place i to an honest server has room for more messages
unfoldable pub room_up : Settings → List ℕ → ℕ → ℕ → Bool
room_up settings slots i more =
    all_below
    (λ j. contains settings.faulty (suc j) || leb (count_at slots (up_index i j) + more) capacity)
    settings.n

-- every channel from the server at place j to a working client has room for what is sent to it
unfoldable pub room_down : Settings → ℕ → List ℕ → ℕ → List Sent → Bool
room_down settings stopped slots j sends =
    all_below
    (λ i. contains stopped (suc i)
    || leb (count_at slots (down_index i j) + length (sent_to (suc i) sends)) capacity) settings.clients

-- ---- messages put on channels

-- a message on the channels from the client at place i to the honest of the first n servers
unfoldable pub broadcast : ℕ → List ℕ → ℕ → Message → ℕ → List ℕ
broadcast faulty slots i message zero = slots
broadcast faulty slots i message (suc j) =
    cond (contains faulty (suc j)) (broadcast faulty slots i message j)
    (put_on (broadcast faulty slots i message j) (up_index i j) (words_of message))

-- to all honest servers
abbrev pub to_all : Settings → List ℕ → ℕ → Message → List ℕ
to_all settings slots i message = broadcast settings.faulty slots i message settings.n

-- messages one after the other
unfoldable pub send_up : Settings → List ℕ → ℕ → List Message → List ℕ
send_up settings slots i [] = slots
send_up settings slots i (message ∷ messages) = send_up settings (to_all settings slots i message) i messages

-- a message on the channel from the server at place j to a client, unless that has stopped
unfoldable pub send_one : ℕ → List ℕ → ℕ → Sent → List ℕ
send_one stopped slots j reply = cond (contains stopped reply.to) slots
    (put_on slots (down_index (reply.to - 1) j) (words_of reply.message))

unfoldable pub send_down : ℕ → List ℕ → ℕ → List Sent → List ℕ
send_down stopped slots j [] = slots
send_down stopped slots j (reply ∷ sends) = send_down stopped (send_one stopped slots j reply) j sends

-- what is sent for the oldest message from the client at place i: whether there is room for it, and the slots
-- after it, without that message; where there is no room, as they were
abbrev pub Delivered : Settings → ℕ → List ℕ → ℕ → ℕ → List Sent → Bool → List ℕ → Type 0
Delivered settings stopped slots i j sends fits after =
    (fits ≡ room_down settings stopped slots j sends)
    × (after ≡ cond fits (send_down stopped (removed slots (up_index i j)) j sends) slots)

-- the channels to the client at place i emptied, those of the first n servers
unfoldable pub emptied : List ℕ → ℕ → ℕ → List ℕ
emptied slots i zero = slots
emptied slots i (suc j) = cleared (emptied slots i j) (down_index i j)

-- ---- what a step gives

-- a step changes one of the arrays, its own, and the slots: K the servers; R, W, D and C the clients
pub record Result : Type 0 where
  pub answer : StepAnswer
  pub own : List ℕ
  pub slots : List ℕ

abbrev pub result : StepAnswer → List ℕ → List ℕ → Result
result answer own slots = record { answer = answer; own = own; slots = slots }

-- both arrays as they were
abbrev pub keeping : List ℕ → List ℕ → StepAnswer → Result
keeping own slots answer = result answer own slots

abbrev pub on_servers : List ℕ → Result → After
on_servers clients given = after given.answer given.own clients given.slots

abbrev pub on_clients : List ℕ → Result → After
on_clients servers given = after given.answer servers given.own given.slots

-- ---- R and W: client d starts in a phase

module _ (settings : Settings) (clients slots : List ℕ) where
  -- what the memory of client d shows
  abbrev pub shown : ℕ → model.Client
  shown d = client.view (client_at clients (d - 1))

  abbrev pub next_of : ℕ → ReadNumber
  next_of d = record { 0 = (shown d).reads.0 + 1 }

  -- the next read number and the phase are stored, and GET_INFO goes on every channel
  abbrev pub begun : ℕ → Phase → Result
  begun d phase =
      result (Ok Went)
      (put_client clients (d - 1)
      (client.stored (client_at clients (d - 1))
      (record { number = d; n = settings.n; f = settings.f; phase = phase; reads = next_of d })))
      (send_up settings slots (d - 1) (GetInfo (next_of d) ∷ []))

  -- the tests of a start: no such client, stopped, busy, read numbers used up, no room for more messages
  abbrev pub is_absent : ℕ → Bool
  is_absent d = not (is_client (settings_of settings) d)

  abbrev pub is_stopped : ℕ → Bool
  is_stopped d = contains (state.stopped_in clients) d

  abbrev pub is_busy : ℕ → Bool
  is_busy d = not (model.is_idle (shown d).phase)

  abbrev pub is_exhausted : ℕ → Bool
  is_exhausted d = leb last_read (shown d).reads.0

  abbrev pub is_full : ℕ → ℕ → Bool
  is_full d more = not (room_up settings slots (d - 1) more)

  -- a read's start counts 2 slots, a write's 3
  abbrev pub read_rungs : ℕ → List Rung
  read_rungs d = read_ladder (is_absent d) (is_stopped d) (is_busy d) (is_exhausted d) (is_full d 2)

  unfoldable pub read_step : ℕ → Result
  read_step d = unless (lowest (read_rungs d)) (keeping clients slots) (begun d Reading)

  abbrev pub write_rungs : ℕ → Entry → List Rung
  write_rungs d entry =
      write_ladder (is_absent d) (is_stopped d) (is_busy d) (not (is_licence entry.0)) (is_exhausted d)
      (is_full d 3)

  unfoldable pub write_step : ℕ → Entry → Result
  write_step d entry =
      unless (lowest (write_rungs d entry)) (keeping clients slots) (begun d (ReadingForWrite entry))

  -- both, for any phase, entry and number of slots; and what remains to refuse once 4 to 8 are not
  abbrev pub start_step : ℕ → Phase → Bool → ℕ → Result
  start_step d phase no_entry more =
      unless
      (lowest (write_ladder (is_absent d) (is_stopped d) (is_busy d) no_entry (is_exhausted d) (is_full d more)))
      (keeping clients slots) (begun d phase)

  abbrev pub begin_step : ℕ → Phase → ℕ → Result
  begin_step d phase more =
      unless (lowest (read_ladder false false false (is_exhausted d) (is_full d more)))
      (keeping clients slots) (begun d phase)

-- ---- K: server k serves the oldest message of client d

-- what stands oldest on the channel
abbrev pub request_at : List ℕ → ℕ → ℕ → Unpacked
request_at slots k d = message_at slots (up_index (d - 1) (k - 1))

-- the server after it, and what it sends; what is no message is dropped
abbrev pub served_by : Server → ℕ → Unpacked → Server
served_by held d (Ok message) = next_server held d message
served_by held d (Err why) = held

abbrev pub sent_for : Server → ℕ → Unpacked → List Sent
sent_for held d (Ok message) = server_sends held d message
sent_for held d (Err why) = []

module _ (settings : Settings) (stopped : ℕ) (servers slots : List ℕ) where
  -- the server as its memory shows it
  abbrev pub server_shown : ℕ → Server
  server_shown k = server.view (server_at servers (k - 1))

  abbrev pub replied : ℕ → ℕ → List Sent
  replied k d = sent_for (server_shown k) d (request_at slots k d)

  abbrev pub served : ℕ → ℕ → Result
  served k d =
      result (Ok Went)
      (put_server servers (k - 1) (server.store (served_by (server_shown k) d (request_at slots k d))))
      (send_down stopped (removed slots (up_index (d - 1) (k - 1))) (k - 1) (replied k d))

  -- once 4, 5 and 10 are not refused
  abbrev pub serve_oldest : ℕ → ℕ → Result
  serve_oldest k d =
      unless (lowest (serve_ladder false false false
      (not (room_down settings stopped slots (k - 1) (replied k d)))))
      (keeping servers slots) (served k d)

  abbrev pub serve_rungs : ℕ → ℕ → List Rung
  serve_rungs k d =
      serve_ladder (not (is_client (settings_of settings) d && is_server (settings_of settings) k))
      (contains settings.faulty k)
      (eqb (count_at slots (up_index (d - 1) (k - 1))) 0)
      (not (room_down settings stopped slots (k - 1) (replied k d)))

  unfoldable pub serve_step : ℕ → ℕ → Result
  serve_step k d = unless (lowest (serve_rungs k d)) (keeping servers slots) (served k d)

-- ---- D: client d takes the oldest message of server k

-- what stands oldest on the channel
abbrev pub reply_at : List ℕ → ℕ → ℕ → Unpacked
reply_at slots d k = message_at slots (down_index (d - 1) (k - 1))

-- what the client makes of it, with n servers, of which f may be faulty; what is no message is dropped
abbrev pub taken_for : ℕ → ℕ → ℕ → model.Client → ℕ → Unpacked → model.Response
taken_for n f d held k (Ok message) = model.client_takes n f d held k message
taken_for n f d held k (Err why) = model.sends_nothing held

module _ (settings : Settings) (clients slots : List ℕ) where
  abbrev pub oldest_taken : ℕ → ℕ → model.Response
  oldest_taken d k = taken_for settings.n settings.f d (shown settings clients slots d) k
      (reply_at slots d k)

  abbrev pub take_result : ℕ → ℕ → Result
  take_result d k =
      result (Ok (oldest_taken d k).answer) (put_client clients (d - 1) (client.store (oldest_taken d k).client))
      (send_up settings (removed slots (down_index (d - 1) (k - 1))) (d - 1) (oldest_taken d k).sends)

  -- once 4, 6 and 10 are not refused
  abbrev pub take_oldest : ℕ → ℕ → Result
  take_oldest d k =
      unless (lowest (take_ladder false false false
      (is_full settings clients slots d (length (oldest_taken d k).sends))))
      (keeping clients slots) (take_result d k)

  abbrev pub take_rungs : ℕ → ℕ → List Rung
  take_rungs d k =
      take_ladder (not (is_client (settings_of settings) d && is_server (settings_of settings) k))
      (is_stopped settings clients slots d)
      (eqb (count_at slots (down_index (d - 1) (k - 1))) 0)
      (is_full settings clients slots d (length (oldest_taken d k).sends))

  unfoldable pub take_step : ℕ → ℕ → Result
  take_step d k = unless (lowest (take_rungs d k)) (keeping clients slots) (take_result d k)

  -- ---- C: client d stops, and the channels to it are emptied

  abbrev pub stop_result : ℕ → Result
  stop_result d =
      result (Ok Went) (put_stopped clients
      (set_of (λ other. eqb d other || contains (state.stopped_in clients) other) most_clients))
      (emptied slots (d - 1) settings.n)

  abbrev pub stop_rungs : ℕ → List Rung
  stop_rungs d = stop_ladder (is_absent settings clients slots d) (is_stopped settings clients slots d)

  unfoldable pub stop_step : ℕ → Result
  stop_step d = unless (lowest (stop_rungs d)) (keeping clients slots) (stop_result d)

-- ---- L: faulty server k puts a message on its channel to client d

-- its answer, and the slots after it
pub record Placed : Type 0 where
  pub answer : StepAnswer
  pub slots : List ℕ

abbrev pub placed : StepAnswer → List ℕ → Placed
placed answer slots = record { answer = answer; slots = slots }

module _ (stopped : ℕ) (slots : List ℕ) where
  -- the words of its bytes are put; to a stopped client they are dropped
  abbrev pub lied : ℕ → ℕ → Words → Placed
  lied k d given = placed (Ok Went)
      (cond (contains stopped d) slots
      (put_on slots (down_index (d - 1) (k - 1)) (words (spelt 0 (bytes_in given)))))

  abbrev pub no_room_for : ℕ → ℕ → Bool
  no_room_for k d = not (contains stopped d || leb (count_at slots (down_index (d - 1) (k - 1)) + 1) capacity)

  -- once 4, 5 and 9 are not refused
  abbrev pub lie_with : ℕ → ℕ → Words → Placed
  lie_with k d given =
      unless (lowest (lie_ladder false false false (no_room_for k d))) (λ answer. placed answer slots)
      (lied k d given)

abbrev pub lie_rungs : Settings → ℕ → List ℕ → ℕ → ℕ → Words → List Rung
lie_rungs settings stopped slots k d given =
    lie_ladder (not (is_client (settings_of settings) d && is_server (settings_of settings) k))
    (not (contains settings.faulty k))
    (not (goes_down (unpack_of (bytes_in given)))) (no_room_for stopped slots k d)

unfoldable pub lie_step : Settings → ℕ → List ℕ → ℕ → ℕ → Words → Placed
lie_step settings stopped slots k d given = unless (lowest (lie_rungs settings stopped slots k d given))
    (λ answer. placed answer slots) (lied stopped slots k d given)

abbrev pub on_slots : List ℕ → List ℕ → Placed → After
on_slots servers clients given = after given.answer servers clients given.slots

-- ---- one step

unfoldable pub in_memory : Settings → List ℕ → List ℕ → List ℕ → Step → After
in_memory settings servers clients slots (step.R d) = on_clients servers (read_step settings clients slots d)
in_memory settings servers clients slots (step.W d entry) = on_clients servers
    (write_step settings clients slots d entry)
in_memory settings servers clients slots (step.K k d) = on_servers clients
    (serve_step settings (state.stopped_in clients) servers slots k d)
in_memory settings servers clients slots (step.D d k) = on_clients servers (take_step settings clients slots d k)
in_memory settings servers clients slots (step.C d) = on_clients servers (stop_step settings clients slots d)
in_memory settings servers clients slots (step.L k d given) = on_slots servers clients
    (lie_step settings (state.stopped_in clients) slots k d given)
