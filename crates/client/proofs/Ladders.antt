-- The ladders of the entry points: each stands in the table's order, so the refusal given is the lowest that
-- applies; and what is so whether it refuses or not. What a ladder that refuses nothing says is in `refusal`.
-- Assumes nothing.
use Rattle.basics.proofs.Prelude.{◌≡◌, refl, sym, ap, ◌∙◌, Bool, true, false, not, ◌&&◌, List, Option, None}
use Rattle.basics.proofs.Prelude.{Some, length, ℕ, ◌≤◌, ◌<◌, leb, leb-true, leb-false, not-false}
use Rattle.std.specs.Prelude.{Ok, Err}
use Rattle.basics.proofs.Cases.{both}
use Rattle.register.proofs.Vocabulary.{Refusal, Rung, lowest, Entry, Message, Unpacked, unpack_of, last_read}
use Rattle.register.proofs.Vocabulary.{goes, goes_down, most_clients, is_idle}
use Rattle.register.specs.declared.Phase.{Phase}
use Rattle.register.specs.declared.Phase.TheVariants.{ReadingForWrite}
use Rattle.refusal.specs.Ladder.{rising}
use Rattle.refusal.proofs.Ladders.{none_applies, Climbs, climbs}
use Rattle.licence.specs.Entry.{is_licence}
use Rattle.message.specs.Layout.{is_reply}
use Rattle.client.specs.declared.Client.{Client}
use Rattle.client.specs.Memory.{client_length, phase_in, reads_in, loaded}
use Rattle.client.specs.Sound.{is_sound_memory}
use Rattle.client.specs.Outcome.{After, after, started_of, taken_of}
use Rattle.client.specs.Entry.{refused_by, decided, read_refusals, write_refusals, take_refusals}
use Rattle.client.specs.Entry.{start_refusals, is_client, is_server, received_as, start_of, write_of, take_of}
use Rattle.client.proofs.Memory.{memory_facts}

-- ---- in the table's order

pub read_ladder_rises : (d n f : ℕ) (memory : List ℕ) → rising 0 (read_refusals d n f memory) ≡ true
read_ladder_rises d n f memory = refl

pub write_ladder_rises : (d n f : ℕ) (memory : List ℕ) (entry : Entry)
    → rising 0 (write_refusals d n f memory entry) ≡ true
write_ladder_rises d n f memory entry = refl

pub take_ladder_rises : (d n f : ℕ) (memory : List ℕ) (k : ℕ) (bytes : List ℕ)
    → rising 0 (take_refusals d n f memory k bytes) ≡ true
take_ladder_rises d n f memory k bytes = refl

-- ---- refused or not

-- a fact of a refusal and of what is otherwise done is a fact of the outcome
pub either : (P : After → Type 0) (memory : List ℕ) (refusal : Option Refusal) (otherwise : After)
    → ((why : Refusal) → P (refused_by memory why)) → (refusal ≡ None → P otherwise)
    → P (decided memory refusal otherwise)
either P memory None otherwise refused done = done refl
either P memory (Some why) otherwise refused done = refused why

pub by_take : (P : After → Type 0) (d n f : ℕ) (memory : List ℕ) (k : ℕ) (bytes : List ℕ)
    → ((why : Refusal) → P (refused_by memory why))
    → (lowest (take_refusals d n f memory k bytes) ≡ None → P (received_as d n f memory k (unpack_of bytes)))
    → P (take_of d n f memory k bytes)
unfolding take_of
by_take P d n f memory k bytes =
    either P memory (lowest (take_refusals d n f memory k bytes)) (received_as d n f memory k (unpack_of bytes))

-- ---- a ladder climbed

-- a test that fails, and one that passes, where a rung has it behind `not`
pub no : {b : Bool} → b ≡ false → not b ≡ true
no e = ap not e

pub yes : {b : Bool} → b ≡ true → not b ≡ false
yes e = ap not e

-- what a test of the code says of a rung
pub rung : (b t u : Bool) → b ≡ t → not b ≡ u → not t ≡ u
rung b t u e n = ap not (sym e) ∙ n

module _ (client : Client) (d n f : ℕ) (memory : List ℕ) (b u : Bool) (e : client ≡ loaded d n f memory) where
  pub idle_rung : b ≡ is_idle client.phase → not b ≡ u → not (is_idle (phase_in memory)) ≡ u
  idle_rung told left = ap (λ (x : Client). not (is_idle x.phase)) (sym e) ∙ ap not (sym told) ∙ left

  pub reads_rung : b ≡ leb last_read client.reads.0 → b ≡ u → leb last_read (reads_in memory).0 ≡ u
  reads_rung told left = ap (λ (x : Client). leb last_read x.reads.0) (sym e) ∙ sym told ∙ left

-- what it says where it passes
pub room : (b : Bool) (n : ℕ) → b ≡ leb last_read n → b ≡ false → n < last_read
room b n e left = leb-false last_read n (sym e ∙ left)

module _ (n f : ℕ) (memory : List ℕ) (b : Bool) (told : b ≡ is_sound_memory n f memory)
    (left : b ≡ true) where
  pub long : length memory ≡ client_length
  long = (memory_facts n f memory (sym told ∙ left)).long

  pub own_sound : (client : Client) (d : ℕ) → client ≡ loaded d n f memory
      → is_sound_memory client.n client.f memory ≡ true
  own_sound client d e = ap (λ (x : Client). is_sound_memory x.n x.f memory) e
      ∙ sym told ∙ left

-- the refusal of the rung where the code stopped, or what is done at the top
module _ (memory : List ℕ) (rungs : List Rung) (otherwise : After) where
  refused : (why : Refusal) → Climbs rungs (Some why)
      → after (Err why) memory ≡ decided memory (lowest rungs) otherwise
  refused why climb = ap (λ (y : Option Refusal). decided memory y otherwise) (climbs rungs climb)

  done : (given : After) → given ≡ otherwise → Climbs rungs None
      → given ≡ decided memory (lowest rungs) otherwise
  done given e climb = e ∙ ap (λ (y : Option Refusal). decided memory y otherwise) (climbs rungs climb)

module _ (d n f : ℕ) (memory : List ℕ) (phase : Phase) (licensed : Bool) where
  pub start_refused : (why : Refusal) → Climbs (start_refusals d n f memory licensed) (Some why)
      → after (Err why) memory ≡ start_of d n f memory phase licensed
  unfolding start_of
  start_refused = refused memory (start_refusals d n f memory licensed) (started_of memory phase)

  pub start_done : (given : After) → given ≡ started_of memory phase
      → Climbs (start_refusals d n f memory licensed) None → given ≡ start_of d n f memory phase licensed
  unfolding start_of
  start_done = done memory (start_refusals d n f memory licensed) (started_of memory phase)

-- what a start that is not refused has passed
pub record Passed (d : ℕ) (memory : List ℕ) (licensed : Bool) : Type 0 where
  pub there : is_client d ≡ true
  pub entry : licensed ≡ true
  pub room : (reads_in memory).0 < last_read

pub start_facts : (d n f : ℕ) (memory : List ℕ) (licensed : Bool)
    → lowest (start_refusals d n f memory licensed) ≡ None → Passed d memory licensed
start_facts d n f memory licensed e =
    let passed = none_applies (start_refusals d n f memory licensed) e in
    record {
      there = not-false (is_client d) passed.1.0;
      entry = not-false licensed passed.1.1.1.1.0;
      room = leb-false last_read (reads_in memory).0 passed.1.1.1.1.1.0;
    }

-- a write is a start, whose entry was tested
pub write_is : (d n f : ℕ) (memory : List ℕ) (entry : Entry) (licensed : Bool) (given : After)
    → licensed ≡ is_licence entry.0 → given ≡ start_of d n f memory (ReadingForWrite entry) licensed
    → given ≡ write_of d n f memory entry
unfolding write_of
write_is d n f memory entry licensed given told is =
    is ∙ ap (start_of d n f memory (ReadingForWrite entry)) told

-- bytes from a server: the rungs of processes and of replies
module _ (b : Bool) (d n k : ℕ) (told : b ≡ is_client d) where
  pub no_client : b ≡ false → not (is_client d && is_server n k) ≡ true
  no_client taken = rw (sym told ∙ taken)

  module _ (left : b ≡ true) (server : Bool) (told_too : server ≡ is_server n k) where
    pub server_rung : (u : Bool) → not server ≡ u → not (is_client d && is_server n k) ≡ u
    server_rung u o = rw (sym told ∙ left) (ap not (sym told_too) ∙ o)

module _ (result : Unpacked) (bytes : List ℕ) (is : result ≡ unpack_of bytes) where
  pub malformed_rung : (why : Refusal) → result ≡ Err why
      → not (goes_down (unpack_of bytes)) ≡ true
  unfolding goes
  malformed_rung why e = ap (λ (v : Unpacked). not (goes_down v)) (sym is ∙ e)

  pub reply_rung : (message : Message) (b u : Bool) → result ≡ Ok message → b ≡ is_reply message
      → not b ≡ u → not (goes_down (unpack_of bytes)) ≡ u
  unfolding goes
  reply_rung message b u e told n =
      ap (λ (v : Unpacked). not (goes_down v)) (sym is ∙ e) ∙ ap not (sym told) ∙ n

-- the client and the server are in range
module _ (d : ℕ) (b : Bool) (told : b ≡ is_client d) (n : b ≡ true) where
  pub client_low : 1 ≤ d
  client_low = leb-true 1 d (both (leb 1 d) (leb d most_clients) (sym told ∙ n)).0

  pub client_high : d ≤ most_clients
  client_high = leb-true d most_clients (both (leb 1 d) (leb d most_clients) (sym told ∙ n)).1

module _ (n k : ℕ) (b : Bool) (told : b ≡ is_server n k) (left : b ≡ true) where
  pub server_low : 1 ≤ k
  server_low = leb-true 1 k (both (leb 1 k) (leb k n) (sym told ∙ left)).0

  pub server_high : k ≤ n
  server_high = leb-true k n (both (leb 1 k) (leb k n) (sym told ∙ left)).1

-- what the bytes bring is taken
pub received_as_lem : (client : Client) (d n f : ℕ) (memory : List ℕ) (k : ℕ) (result : Unpacked) (bytes : List ℕ)
    (message : Message) (given : After)
    → client ≡ loaded d n f memory → result ≡ unpack_of bytes → result ≡ Ok message
    → given ≡ taken_of client.number client.n client.f memory k message
    → given ≡ received_as d n f memory k (unpack_of bytes)
received_as_lem client d n f memory k result bytes message given e is good step =
    step ∙ ap (λ (y : Client). taken_of y.number y.n y.f memory k message) e
    ∙ ap (received_as d n f memory k) (sym good ∙ is)

module _ (d n f : ℕ) (memory : List ℕ) (k : ℕ) (bytes : List ℕ) where
  pub take_refused : (why : Refusal) → Climbs (take_refusals d n f memory k bytes) (Some why)
      → after (Err why) memory ≡ take_of d n f memory k bytes
  unfolding take_of
  take_refused =
      refused memory (take_refusals d n f memory k bytes) (received_as d n f memory k (unpack_of bytes))

  pub take_done : (given : After) → given ≡ received_as d n f memory k (unpack_of bytes)
      → Climbs (take_refusals d n f memory k bytes) None
      → given ≡ take_of d n f memory k bytes
  unfolding take_of
  take_done = done memory (take_refusals d n f memory k bytes) (received_as d n f memory k (unpack_of bytes))
