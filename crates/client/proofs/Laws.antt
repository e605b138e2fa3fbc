-- What a user of the client end can rely on, whatever bytes the servers send.
--
-- In order: exactly one phase (`one_phase`); only READ, WROTE and SPENT lead to idle (`take_ends`); read
-- numbers rise by one at each start and at no other time (`read_rises`, `write_rises`, `take_keeps_number`);
-- what changes nothing: an INFO of another read (`old_info`), an acknowledgement of another write or outside
-- one (`late_ack`), any message to an idle client (`idle_drops`). That every memory stays sound is in
-- `Steadiness`.
-- Assumes nothing.
use Rattle.basics.proofs.Prelude.{◌≡◌, refl, ap, ◌∙◌, Bool, true, false, cond, List, [], None, get_or, ℕ, ◌+◌}
use Rattle.basics.proofs.Prelude.{◌%◌, ◌^◌, arith, eqb, not-false}
use Rattle.std.specs.Prelude.{Ok, Err}
use mir.Val.{bool_byte}
use Rattle.basics.proofs.Cases.{by_test, by_option}
use Rattle.licence.specs.Entry.{is_licence}
use Rattle.register.proofs.Vocabulary.{Entry, Message, GetInfo, Info, Done, WriteInfo, Fwd, WriteAck, Pair}
use Rattle.register.proofs.Vocabulary.{ReadNumber, Unpacked, WriteCounter, counter, unpack_of}
use Rattle.register.proofs.Vocabulary.{last_counter, Refusal, lowest, counted, enough, Response, is_idle}
use Rattle.register.proofs.Vocabulary.{is_reading, is_storing, sends_nothing, with_info, with_pair, with_ack}
use Rattle.register.proofs.Vocabulary.{chosen, concluded, after_choice, acknowledged, uses_info, client_takes}
use Rattle.register.proofs.Vocabulary.{started, next_read, entry_of, StepAnswer}
use Rattle.register.specs.declared.Answer.TheVariants.{Went, Read, Wrote, Spent}
use Rattle.register.specs.declared.Phase.{Phase}
use Rattle.register.specs.declared.Phase.TheVariants.{Idle, Reading, ReadingForWrite, Storing}
use Rattle.register.specs.Client as model
use Rattle.client.specs.Memory.{reads_at, counter_in, phase_in, reads_in, view}
use Rattle.client.specs.Sound.{stores, is_sound_memory}
use Rattle.client.specs.Taking.{is_taken}
use Rattle.client.specs.Outcome.{After}
use Rattle.client.specs.Entry.{refused_by, read_refusals, write_refusals, take_refusals, received_as}
use Rattle.client.specs.Entry.{start_refusals, read_of, start_of, write_of, take_of}
use Rattle.client.proofs.Dropping.{not_taken, idle_takes_none, other_read, other_write}
use Rattle.client.proofs.Heads.{mod_small, idle_again}
use Rattle.refusal.proofs.Ladders.{none_applies}
use Rattle.client.proofs.Ladders.{by_take, start_facts}
use Rattle.client.proofs.Memory.{store_view}

-- ---- phases

pub one_phase : (phase : Phase)
    → bool_byte (is_idle phase) + bool_byte (is_reading phase) + bool_byte (stores phase) ≡ 1
unfolding is_idle is_reading stores
one_phase Idle = refl
one_phase Reading = refl
one_phase (ReadingForWrite entry) = refl
one_phase (Storing entry count) = refl

-- an operation has ended
abbrev pub is_ending : StepAnswer → Bool
is_ending (Ok Went) = false
is_ending (Ok (Read pair)) = true
is_ending (Ok (Wrote pair)) = true
is_ending (Ok Spent) = true
is_ending (Err why) = false

-- an outcome of a client that was not idle and was at a read number
pub record Proceeds (old : ReadNumber) (phase : Phase) (reads : ReadNumber) (answer : StepAnswer) : Type 0 where
  pub ends : is_idle phase ≡ is_ending answer
  pub number : reads ≡ old

-- a step of the model's client
abbrev Follows : model.Client → Response → Type 0
Follows self response =
    Proceeds self.reads response.client.phase response.client.reads (Ok response.answer)

stays : (self : model.Client) → is_idle self.phase ≡ false → Follows self (sends_nothing self)
stays self h = record { ends = h; number = refl }

either_way : (self : model.Client) (b : Bool) (one other : Response) → Follows self one → Follows self other
    → Follows self (cond b one other)
either_way self true one other p q = p
either_way self false one other p q = q

module _ (n f d : ℕ) where
  concluded_ends : (self : model.Client) (phase : Phase) (pair : Pair) → is_idle self.phase ≡ false
      → Follows self (concluded n f d self phase pair)
  unfolding concluded is_idle
  concluded_ends self Idle pair h = stays self h
  concluded_ends self Reading pair h = record { ends = refl; number = refl }
  concluded_ends self (ReadingForWrite entry) pair h =
      either_way self (eqb (counter pair).0 last_counter) _ _ (record { ends = refl; number = refl })
      (record { ends = refl; number = refl })
  concluded_ends self (Storing entry count) pair h = stays self h

  looked_ends : (self : model.Client) → is_idle self.phase ≡ false
      → Follows self (after_choice n f d self (chosen n f d self))
  unfolding after_choice
  looked_ends self h =
      by_option (chosen n f d self) (λ e. rw e (stays self h))
      (λ pair e. rw e (concluded_ends self self.phase pair h))

  acknowledged_ends : (self : model.Client) (count : WriteCounter) → is_idle self.phase ≡ false
      → Follows self (acknowledged n f d self count)
  unfolding acknowledged is_idle
  acknowledged_ends self count h =
      either_way self (enough n f (counted self.acks n)) _ _ (record { ends = refl; number = refl })
      (stays self h)

  taken_ends : (self : model.Client) (k : ℕ) (message : Message) → is_idle self.phase ≡ false
      → Follows self (client_takes n f d self k message)
  unfolding client_takes with_info with_pair with_ack
  taken_ends self k (GetInfo tag) h = stays self h
  taken_ends self k (Info tag pair) h =
      either_way self (uses_info self k tag) _ _ (looked_ends (with_info self k pair) h) (stays self h)
  taken_ends self k Done h = stays self h
  taken_ends self k (WriteInfo pair) h = stays self h
  taken_ends self k (Fwd pair) h =
      either_way self (is_reading self.phase) _ _ (looked_ends (with_pair self k pair) h) (stays self h)
  taken_ends self k (WriteAck count) h =
      either_way self (is_storing self.phase count) _ _ (acknowledged_ends (with_ack self k) count h)
      (stays self h)

-- the same of the client that a memory has
twice : (n : ℕ) → n % 2 ^ 32 % 2 ^ 32 ≡ n % 2 ^ 32
twice n = omega arith

module _ (d n f : ℕ) (memory : List ℕ) (k : ℕ) (h : is_idle (phase_in memory) ≡ false) where
  -- of an outcome
  abbrev ProceedsTo : After → Type 0
  ProceedsTo outcome =
      Proceeds (reads_in memory) (phase_in outcome.memory) (reads_in outcome.memory) outcome.answer

  proceeds : (unpacked : Unpacked) → ProceedsTo (received_as d n f memory k unpacked)
  proceeds (Ok message) =
      let follows = taken_ends n f d (view memory) k message h in
      let phase = (client_takes n f d (view memory) k message).client.phase in
      record {
        ends = idle_again phase (entry_of phase).0 (counter_in phase % 2 ^ 32) ∙ follows.ends;
        number =
            ap (λ (reads : ReadNumber). record { 0 = reads.0 % 2 ^ 32 }) follows.number
            ∙ ap (λ (n : ℕ). record { 0 = n }) (twice (get_or memory reads_at 0));
      }
  proceeds (Err why) = record { ends = h; number = refl }

  take_proceeds : (bytes : List ℕ) → ProceedsTo (take_of d n f memory k bytes)
  take_proceeds bytes =
      by_take ProceedsTo d n f memory k bytes (λ x. record { ends = h; number = refl })
      (λ e. proceeds (unpack_of bytes))

pub take_ends : (d n f : ℕ) (memory : List ℕ) (k : ℕ) (bytes : List ℕ) → is_idle (phase_in memory) ≡ false
    → is_idle (phase_in (take_of d n f memory k bytes).memory) ≡ is_ending (take_of d n f memory k bytes).answer
take_ends d n f memory k bytes h = (take_proceeds d n f memory k h bytes).ends

-- ---- read numbers

-- a start has a read number left to rise to
start_rises : (d n f : ℕ) (memory : List ℕ) (phase : Phase) (licensed : Bool)
    → lowest (start_refusals d n f memory licensed) ≡ None
    → (reads_in (start_of d n f memory phase licensed).memory).0 ≡ (reads_in memory).0 + 1
unfolding start_of started next_read
start_rises d n f memory phase licensed e =
    let room = (start_facts d n f memory licensed e).room in
    rw e (mod_small ((reads_in memory).0 + 1) (omega arith))

pub read_rises : (d n f : ℕ) (memory : List ℕ) → lowest (read_refusals d n f memory) ≡ None
    → (reads_in (read_of d n f memory).memory).0 ≡ (reads_in memory).0 + 1
unfolding read_of start_of
read_rises d n f memory e = start_rises d n f memory Reading true e

pub write_rises : (d n f : ℕ) (memory : List ℕ) (entry : Entry)
    → lowest (write_refusals d n f memory entry) ≡ None
    → (reads_in (write_of d n f memory entry).memory).0 ≡ (reads_in memory).0 + 1
unfolding write_of
write_rises d n f memory entry h = start_rises d n f memory (ReadingForWrite entry) (is_licence entry.0) h

-- ---- what changes nothing

pub record Unchanged (before : List ℕ) (outcome : After) : Type 0 where
  pub memory : outcome.memory ≡ before
  pub sends : outcome.sends ≡ []

refused_unchanged : (memory : List ℕ) (why : Refusal) → Unchanged memory (refused_by memory why)
refused_unchanged memory why = record { memory = refl; sends = refl }

pub by_unpacked : {A : Type 0} (unpacked : Unpacked) → ((message : Message) → unpacked ≡ Ok message → A)
    → ((why : Refusal) → unpacked ≡ Err why → A) → A
by_unpacked (Ok message) good refused = good message refl
by_unpacked (Err why) good refused = refused why refl

module _ (d n f : ℕ) (memory : List ℕ) (k : ℕ) (bytes : List ℕ) where
  -- an accepted message came to a sound memory
  sound_then : lowest (take_refusals d n f memory k bytes) ≡ None → is_sound_memory n f memory ≡ true
  sound_then e = not-false (is_sound_memory n f memory) (none_applies (take_refusals d n f memory k bytes) e).0

  dropped_unchanged : (message : Message) → unpack_of bytes ≡ Ok message
      → is_taken (view memory) k message ≡ false
      → Unchanged memory (take_of d n f memory k bytes)
  dropped_unchanged message good e =
      by_take (Unchanged memory) d n f memory k bytes (refused_unchanged memory)
      (λ accepted. rw (good, not_taken n f d (view memory) k message e)
      record { memory = store_view n f memory (sound_then accepted); sends = refl })

  pub old_info : (tag : ReadNumber) (pair : Pair) → unpack_of bytes ≡ Ok (Info tag pair)
      → (tag.0 ≡ (reads_in memory).0 → ⊥)
      → Unchanged memory (take_of d n f memory k bytes)
  old_info tag pair good other =
      dropped_unchanged (Info tag pair) good (other_read (view memory) k tag pair other)

  pub late_ack : (count : WriteCounter) → unpack_of bytes ≡ Ok (WriteAck count)
      → is_storing (phase_in memory) count ≡ false
      → Unchanged memory (take_of d n f memory k bytes)
  late_ack count good late = dropped_unchanged (WriteAck count) good (other_write (view memory) k count late)

  pub idle_drops : is_idle (phase_in memory) ≡ true → Unchanged memory (take_of d n f memory k bytes)
  idle_drops h =
      by_unpacked (unpack_of bytes)
      (λ message good. dropped_unchanged message good (idle_takes_none (view memory) k message h))
      (λ why bad. by_take (Unchanged memory) d n f memory k bytes (refused_unchanged memory)
      (λ accepted. rw bad (refused_unchanged memory why)))

-- ---- every client at any time

pub take_keeps_number : (d n f : ℕ) (memory : List ℕ) (k : ℕ) (bytes : List ℕ)
    → reads_in (take_of d n f memory k bytes).memory ≡ reads_in memory
take_keeps_number d n f memory k bytes =
    by_test (is_idle (phase_in memory)) (λ e. ap reads_in (idle_drops d n f memory k bytes e).memory)
    (λ e. (take_proceeds d n f memory k e bytes).number)
