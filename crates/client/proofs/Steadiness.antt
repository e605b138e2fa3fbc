-- Whatever is asked of a client in a sound memory, and whatever bytes a server sends, the memory is sound
-- after it.
--
-- The setup is sound (`new_sound`). A refusal changes nothing. Otherwise the next client is kept (`Keeping`),
-- since what a ladder does not refuse is in range.
-- Assumes nothing.
use Rattle.basics.proofs.Prelude.{◌≡◌, refl, sym, ap, ◌∙◌, Bool, true, List, drop, replicate, ℕ}
use Rattle.basics.proofs.Prelude.{arith, leb, leb-true, not-false}
use Rattle.basics.proofs.Cases.{both}
use Rattle.register.proofs.Vocabulary.{lowest, Entry, unpack_of, most_clients, are_servers_in_range, new_client}
use Rattle.register.proofs.Vocabulary.{client_takes, started}
use Rattle.register.specs.declared.Phase.{Phase}
use Rattle.register.specs.declared.Phase.TheVariants.{Idle, Reading, ReadingForWrite}
use Rattle.refusal.proofs.Ladders.{none_applies}
use Rattle.licence.specs.Entry.{is_licence}
use Rattle.message.proofs.RoundTrip.{pack_unpack}
use Rattle.client.specs.State.{store_client}
use Rattle.client.specs.Memory.{client_length, replies_at, loaded, view}
use Rattle.client.specs.Sound.{is_sound_phase, is_sound, is_sound_memory}
use Rattle.client.specs.Outcome.{After, started_of}
use Rattle.client.specs.Entry.{is_client, is_server, start_refusals, take_refusals, read_of, start_of}
use Rattle.client.specs.Entry.{write_of, take_of}
use Rattle.client.proofs.Facts.{of_client, client_sound}
use Rattle.client.proofs.Fitting.{Words, drop_words}
use Rattle.client.proofs.Keeping.{kept_memory, kept_cleared, kept_started, kept_taken}
use Rattle.client.proofs.Ladders.{either, by_take, start_facts}
use Rattle.client.proofs.Laws.{by_unpacked}
use Rattle.client.proofs.Memory.{sound_parts, store_new}

-- the memory after a step is sound
abbrev pub Steady : ℕ → ℕ → After → Type 0
Steady n f outcome = is_sound_memory n f outcome.memory ≡ true

-- the setup
pub new_sound : (n f : ℕ) → are_servers_in_range n f ≡ true → is_sound_memory n f (replicate client_length 0) ≡ true
unfolding is_sound_phase
new_sound n f range =
    let client = store_client 1 n f new_client in
    ap (is_sound_memory n f) (sym store_new)
    ∙ (kept_memory client new_client
    (kept_cleared client Idle (record { 0 = 0 })
    (client_sound client
    (record { low = omega arith; high = omega arith; range = range; reads = omega arith; phase = refl })))
    ).sound

module _ (d n f : ℕ) (memory : List ℕ) (h : is_sound_memory n f memory ≡ true) where
  -- of a client that there is
  sound_client : is_client d ≡ true → is_sound (loaded d n f memory) (drop replies_at memory) ≡ true
  sound_client e =
      let there = both (leb 1 d) (leb d most_clients) e in
      sound_parts d n f memory (leb-true 1 d there.0) (leb-true d most_clients there.1) h

  start_sound : (phase : Phase) (licensed : Bool) → (licensed ≡ true → is_sound_phase phase ≡ true)
      → Steady n f (start_of d n f memory phase licensed)
  unfolding start_of
  start_sound phase licensed entry =
      either (Steady n f) memory (lowest (start_refusals d n f memory licensed)) (started_of memory phase)
      (λ why. h) (λ e. let passed = start_facts d n f memory licensed e in
      let client = loaded d n f memory in
      (kept_memory client (started (view memory) phase) (kept_started client (drop replies_at memory) phase
      (of_client client (drop replies_at memory) (sound_client passed.there)) passed.room
      (entry passed.entry))).sound)

  pub read_sound : Steady n f (read_of d n f memory)
  unfolding read_of start_of is_sound_phase
  read_sound = start_sound Reading true (λ e. refl)

  pub write_sound : (entry : Entry) → Steady n f (write_of d n f memory entry)
  unfolding write_of is_sound_phase
  write_sound entry = start_sound (ReadingForWrite entry) (is_licence entry.0) (λ e. e)

  pub take_sound : (k : ℕ) (bytes : List ℕ) → Words memory → Steady n f (take_of d n f memory k bytes)
  take_sound k bytes words =
      by_take (Steady n f) d n f memory k bytes (λ why. h)
      (λ e. let there = both (is_client d) (is_server n k)
      (not-false _ (none_applies (take_refusals d n f memory k bytes) e).1.0) in
      let server = both (leb 1 k) (leb k n) there.1 in
      by_unpacked (unpack_of bytes)
      (λ message good. rw good
      (kept_memory (loaded d n f memory) (client_takes n f d (view memory) k message).client
      (kept_taken (loaded d n f memory) (drop replies_at memory) k (sound_client there.0)
      (leb-true 1 k server.0) (leb-true k n server.1) (drop_words replies_at memory words) message
      (pack_unpack bytes message good).within)).sound) (λ why bad. rw bad h))
