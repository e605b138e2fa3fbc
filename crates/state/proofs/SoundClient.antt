-- A sound client's memory: it holds a well-formed client, the client at setup where there is none, and
-- storing what it holds gives it back.
--
-- The client's own test is of numbers in memory; here each is read as what it says of the client.
-- Assumes nothing.
use Rattle.basics.proofs.Prelude.{◌≡◌, refl, sym, ap, ◌∙◌, Bool, true, false, cond, not, ◌&&◌, ◌||◌, List, []}
use Rattle.basics.proofs.Prelude.{None, Some, get_or, drop, ℕ, zero, suc, ◌+◌, ◌*◌, ◌%◌, ◌^◌, ◌≤◌, ◌<◌, arith}
use Rattle.basics.proofs.Prelude.{eqb, ltb, eqb-true, ltb-true}
use mathlib.Core.Path.{fun_ext}
use mathlib.Core.Bool.{and-false}
use lib.Seq.{get_or-drop}
use Rattle.register.proofs.Vocabulary.{Member, Entry, Pair, WriteCounter, initial, pair_bits, stamp_bits}
use Rattle.register.proofs.Vocabulary.{new_client, set_limit, is_reading, formats, most_servers, is_server}
use Rattle.register.proofs.Vocabulary.{WellPhase, WellClient}
use Rattle.register.specs.declared.Phase.{Phase}
use Rattle.register.specs.declared.Phase.TheVariants.{Idle, Reading, ReadingForWrite, Storing}
use Rattle.basics.proofs.Cases.{both, clash}
use Rattle.basics.proofs.Members.{every_at}
use Rattle.basics.proofs.UpTo.{pick}
use Rattle.licence.specs.Entry.{is_licence}
use Rattle.message.specs.Pair.{counter_bits}
use Rattle.register.specs.Settings as model
use Rattle.register.specs.WellFormed.{WellSet}
use Rattle.replies.specs.Replies.{acks_at, pairs_at, note_of, set_at, noted_in, set_in, ack_in}
use Rattle.replies.proofs.Places.{size_most, pair_at_lem}
use Rattle.replies.proofs.Soundness.{Sound, facts, most}
use Rattle.client.specs.Memory.{reads_at, phase_at, replies_at, phase_of, phase_in, view, store, client_length}
use Rattle.client.specs.Sound.{is_sound_phase, stores, is_sound_memory}
use Rattle.client.proofs.Heads.{mod_small}
use Rattle.client.proofs.Memory.{SoundMemory, memory_facts, store_view}
use Rattle.state.specs.declared.Settings.{Settings}
use Rattle.state.specs.State.{settings_of}
use Rattle.state.specs.Sound.{is_client_sound}
use Rattle.state.proofs.Orders.{rising_ordered, every_place}
use Rattle.state.proofs.Tested.{server_place}

-- ---- phases, notes, limits

well_phase : (phase : Phase) → is_sound_phase phase ≡ true → WellPhase formats phase
unfolding is_sound_phase
well_phase Idle h = tt
well_phase Reading h = tt
well_phase (ReadingForWrite entry) h = h
well_phase (Storing entry counter) h =
    let b = both (is_licence entry.0) (ltb counter.0 (2 ^ counter_bits)) h in
    (b.0, ltb-true counter.0 (2 ^ counter_bits) b.1)

no_store : (phase : Phase) → ((entry : Entry) (counter : WriteCounter) → phase ≡ Storing entry counter → ⊥)
    → stores phase ≡ false
unfolding stores
no_store Idle h = refl
no_store Reading h = refl
no_store (ReadingForWrite entry) h = refl
no_store (Storing entry counter) h = absurd (h entry counter refl)

note_some : (word stamp : ℕ) → note_of word ≡ Some stamp → word ≡ suc stamp
unfolding note_of
note_some zero stamp e = clash (cc)
note_some (suc word) stamp e = let z : word ≡ stamp = cc in ap suc z

-- a number whose limit is not used
zero_unless : (used : Bool) (limit x : ℕ) → used ≡ false → x ≤ cond used limit 0 → x ≡ 0
zero_unless used limit x e h = let top : x ≤ 0 = rw e at h in omega arith

empty_set : WellSet []
empty_set = record { ordered = tt; few = omega arith; pairs = λ p m. absurd m }

-- ---- the client's memory at place i

module _ (settings : Settings) (i : ℕ) (memory : List ℕ) (h : is_client_sound settings i memory ≡ true) where
  abbrev S : model.Settings
  S = settings_of settings

  abbrev phase : Phase
  phase = phase_in memory

  abbrev replies : List ℕ
  replies = drop replies_at memory

  abbrev rest : Bool
  rest = eqb (get_or memory reads_at 0) 0 && eqb (get_or memory phase_at 0) 0

  parts : (is_sound_memory settings.n settings.f memory ≡ true)
      × ((ltb i settings.clients || rest) ≡ true)
  unfolding is_client_sound
  parts = both (is_sound_memory settings.n settings.f memory) (ltb i settings.clients || rest) h

  known : SoundMemory settings.n settings.f memory
  known = memory_facts settings.n settings.f memory parts.0

  -- a place that is not used
  at_rest : ltb i settings.clients ≡ false → (get_or memory reads_at 0 ≡ 0) × (get_or memory phase_at 0 ≡ 0)
  at_rest e =
      let q = both (eqb (get_or memory reads_at 0) 0) (eqb (get_or memory phase_at 0) 0) (rw e at parts.1) in
      (eqb-true (get_or memory reads_at 0) 0 q.0, eqb-true (get_or memory phase_at 0) 0 q.1)

  idle : ltb i settings.clients ≡ false → phase ≡ Idle
  unfolding phase_of
  idle e = rw (at_rest e).1

  small_reads : get_or memory reads_at 0 % 2 ^ 32 ≡ get_or memory reads_at 0
  small_reads = let few = known.reads in mod_small (get_or memory reads_at 0) (omega arith)

  replies_sound : Sound settings.n (is_reading phase) (stores phase) replies
  replies_sound = facts settings.n (is_reading phase) (stores phase) replies known.replies

  abbrev reading : ℕ → Bool
  reading j = ltb j settings.n && is_reading phase

  abbrev storing : ℕ → Bool
  storing j = ltb j settings.n && stores phase

  -- ---- what the memory says of each server

  noted : (k stamp : ℕ) → noted_in replies k ≡ Some stamp → stamp < 2 ^ stamp_bits
  unfolding noted_in
  noted zero stamp = λ e. clash (cc)
  noted (suc j) stamp =
      pick (λ o. o ≡ Some stamp → stamp < 2 ^ stamp_bits) (ltb j most_servers) (note_of (get_or replies j 0)) None
      (λ q e. let w = note_some (get_or replies j 0) stamp e in
      let top = most (reading j) (2 ^ stamp_bits) (get_or replies j 0)
      (replies_sound.part j (ltb-true j most_servers q)).noted in
      omega arith)
      (λ q e. clash (cc))

  not_read : (j : ℕ) → is_server S (suc j) && is_reading phase ≡ false → reading j ≡ false
  not_read j e = rw (server_place settings j) at e

  noted_unused_lem : (k : ℕ) → is_server S k && is_reading phase ≡ false → noted_in replies k ≡ None
  unfolding noted_in note_of
  noted_unused_lem zero e = refl
  noted_unused_lem (suc j) e =
      pick (λ o. o ≡ None) (ltb j most_servers) (note_of (get_or replies j 0)) None
      (λ q. rw (zero_unless (reading j) _ _ (not_read j e)
      (replies_sound.part j (ltb-true j most_servers q)).noted))
      (λ q. refl)

  sets_unused_lem : (k : ℕ) → is_server S k && is_reading phase ≡ false → set_in replies k ≡ []
  unfolding set_in
  sets_unused_lem zero e = refl
  sets_unused_lem (suc j) e =
      pick (λ l. l ≡ []) (ltb j most_servers) (set_at replies j) []
      (λ q. rw (zero_unless (reading j) _ _ (not_read j e)
      (replies_sound.part j (ltb-true j most_servers q)).size))
      (λ q. refl)

  ack_none : (j : ℕ) → storing j ≡ false → ack_in replies (suc j) ≡ false
  unfolding ack_in
  ack_none j flag =
      pick (λ b. b ≡ false) (ltb j most_servers) (not (eqb (get_or replies (acks_at + j) 0) 0)) false
      (λ q. rw (zero_unless (storing j) _ _ flag (replies_sound.part j (ltb-true j most_servers q)).ack))
      (λ q. refl)

  acks_unused_lem : (k : ℕ) → is_server S k ≡ false → ack_in replies k ≡ false
  unfolding ack_in
  acks_unused_lem zero e = refl
  acks_unused_lem (suc j) e = ack_none j (rw (sym (server_place settings j) ∙ e))

  acks_idle_lem : ((entry : Entry) (counter : WriteCounter) → phase ≡ Storing entry counter → ⊥) → (k : ℕ)
      → ack_in replies k ≡ false
  unfolding ack_in
  acks_idle_lem apart zero = refl
  acks_idle_lem apart (suc j) = ack_none j (rw (no_store phase apart, and-false (ltb j settings.n)))

  module _ (fit : (x : ℕ) → x < client_length → get_or memory x 0 < 2 ^ 64) where
    set_pairs : (j : ℕ) → j < most_servers → (p : Pair) → Member p (set_in replies (suc j))
        → p.0 < 2 ^ pair_bits
    set_pairs j less =
        every_at (λ p. p.0 < 2 ^ pair_bits) (set_in replies (suc j))
        (every_place (λ p. p.0 < 2 ^ pair_bits) initial (set_in replies (suc j))
        (λ x inside. let few = size_most replies j replies_sound.long less in
        let at = pairs_at + j * set_limit + x in
        rw (pair_at_lem replies j replies_sound.long less x initial inside, get_or-drop replies_at memory at 0)
        (fit (replies_at + at) (omega arith))))

    sets : (k : ℕ) → WellSet (set_in replies k)
    unfolding set_in
    sets zero = empty_set
    sets (suc j) =
        pick WellSet (ltb j most_servers) (set_at replies j) []
        (λ q. let less = ltb-true j most_servers q in
        record {
          ordered = rising_ordered (set_at replies j) (rw q at (replies_sound.part j less).rising);
          few = rw q at (size_most replies j replies_sound.long less);
          pairs = rw q at (set_pairs j less);
        })
        (λ q. empty_set)

    pub well_client : WellClient S formats (view memory)
    well_client =
        record {
          phase = well_phase phase known.head.sound;
          reads = rw small_reads known.reads;
          noted = noted;
          sets = sets;
          noted_unused = noted_unused_lem;
          sets_unused = sets_unused_lem;
          acks_unused = acks_unused_lem;
          acks_idle = acks_idle_lem;
        }

  pub unused_client : ltb i settings.clients ≡ false → view memory ≡ new_client
  unfolding is_reading
  unused_client e =
      let idle_now = idle e in
      let quiet : (k : ℕ) → is_server S k && is_reading phase
      ≡ false = λ k. rw (idle_now, and-false (is_server S k)) in
      let apart : (entry : Entry) (counter : WriteCounter) → phase ≡ Storing entry counter → ⊥ =
      λ entry counter same. let q : Idle ≡ Storing entry counter = sym idle_now ∙ same in clash (cc) in
      let notes : noted_in replies ≡ (λ (k : ℕ). None) = fun_ext (λ k. noted_unused_lem k (quiet k)) in
      let pairs : set_in replies ≡ (λ (k : ℕ). []) = fun_ext (λ k. sets_unused_lem k (quiet k)) in
      let acks : ack_in replies ≡ (λ (k : ℕ). false) = fun_ext (acks_idle_lem apart) in
      let zero_reads : get_or memory reads_at 0 % 2 ^ 32 ≡ 0 = small_reads ∙ (at_rest e).0 in
      λ q. record {
        phase = idle_now q;
        reads = record { 0 = zero_reads q };
        noted = notes q;
        sets = pairs q;
        acks = acks q;
      }

  pub client_back : store (view memory) ≡ memory
  client_back = store_view settings.n settings.f memory parts.0
