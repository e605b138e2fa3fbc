-- A client in its memory: what is loaded is what was stored, and a sound memory is the memory of what it
-- shows.
--
-- Why: the four numbers of the head and the rest are the whole memory (`head_rest`); a sound head is that of
-- its phase (`Heads`), and sound replies are those of what they show (`replies`). A memory is asked, place by
-- place, for what its client and replies are asked for (`sound_parts`, `sound_whole`).
--
-- In order: the head and the rest; a sound memory and its parts; loading what was stored (`view_store`,
-- `load_stored`); storing what was loaded (`store_load`, `store_view`); every memory's length, and the setup;
-- a client that is loaded.
-- Assumes nothing.
use Rattle.basics.proofs.Prelude.{◌≡◌, sym, ap, ◌∙◌, Bool, true, List, [], ◌∷◌, ◌++◌, length, get_or, set, drop}
use Rattle.basics.proofs.Prelude.{replicate, length-append, ℕ, ◌%◌, ◌^◌, ◌≤◌, ◌<◌, arith, eqb, ltb}
use Rattle.basics.proofs.Prelude.{eqb-true, eq-eqb, leb-true, le-leb}
use lib.Seq.{drop-cons, sets-eq}
use Rattle.basics.proofs.Tests.{each, all_of}
use Rattle.register.proofs.Vocabulary.{ReadNumber, WriteCounter, tag_bits, most_clients, are_servers_in_range}
use Rattle.register.proofs.Vocabulary.{is_reading, new_client, entry_of}
use Rattle.register.specs.declared.Phase.{Phase}
use Rattle.register.specs.declared.Phase.TheVariants.{Idle}
use Rattle.register.specs.Client as model
use Rattle.replies.specs.Replies.{held, store_replies}
use Rattle.replies.specs.Sound.{are_sound}
use Rattle.replies.proofs.Soundness.{facts, sound}
use Rattle.replies.proofs.Stores.{row_length}
use Rattle.replies.proofs.Storing.{store_held, store_cleared}
use Rattle.client.specs.declared.Client.{Client}
use Rattle.client.specs.Memory.{client_length, reads_at, phase_at, entry_at, counter_at, replies_at, phase_of}
use Rattle.client.specs.Memory.{code_of, counter_in, phase_in, reads_in, loaded, head_of, stored, view}
use Rattle.client.specs.Memory.{store}
use Rattle.client.specs.Sound.{stores, is_sound_head, is_sound, is_sound_memory}
use Rattle.client.proofs.Facts.{client_facts, client_sound, of_client, of_memory, of_both}
use Rattle.client.proofs.Facts.{Passes, passes}
use Rattle.client.proofs.Heads.{Head, head_facts, head_sound, counter_fits, mod_small, phase_again}

-- ---- the head and the rest

-- what `load` and `store` make, from what the calls answer
pub loaded_by : (d n f : ℕ) (memory : List ℕ) (count : WriteCounter) (phase : Phase) (reads : ReadNumber)
    → count ≡ record { 0 = get_or memory counter_at 0 % 2 ^ 32 }
    → phase ≡ phase_of (get_or memory phase_at 0) (get_or memory entry_at 0) count.0 → reads ≡ reads_in memory
    → record { phase = phase; reads = reads; number = d; n = n; f = f } ≡ loaded d n f memory
loaded_by d n f memory count phase reads ec ep er = rw (ep, ec, er)

pub stored_by_lem : (memory : List ℕ) (client : Client) (reads code entry count : ℕ)
    → length memory ≡ client_length → reads ≡ client.reads.0 → code ≡ code_of client.phase
    → entry ≡ (entry_of client.phase).0 → count ≡ counter_in client.phase
    → set (set (set (set memory reads_at reads) phase_at code) entry_at entry) counter_at count
    ≡ stored memory client
stored_by_lem memory client reads code entry count long er ep ee ec =
    sets-eq (reads ∷ code ∷ entry ∷ count ∷ []) memory reads_at (omega arith) ∙ rw (er, ep, ee, ec)

pub head_rest : (memory : List ℕ) → length memory ≡ client_length
    → get_or memory reads_at 0 ∷ get_or memory phase_at 0 ∷ get_or memory entry_at 0 ∷ get_or memory counter_at 0
    ∷ drop replies_at memory ≡ memory
head_rest memory long =
    rw (← drop-cons memory counter_at 0 (omega arith), ← drop-cons memory entry_at 0 (omega arith))
    (rw (← drop-cons memory phase_at 0 (omega arith), ← drop-cons memory reads_at 0 (omega arith)))

-- ---- a sound memory

pub record SoundMemory (n f : ℕ) (memory : List ℕ) : Type 0 where
  pub range : are_servers_in_range n f ≡ true
  pub long : length memory ≡ client_length
  pub reads : get_or memory reads_at 0 < 2 ^ tag_bits
  pub head : Head (get_or memory phase_at 0) (get_or memory entry_at 0) (get_or memory counter_at 0)
  pub replies : are_sound n (is_reading (phase_in memory)) (stores (phase_in memory))
      (drop replies_at memory) ≡ true

abbrev tests : ℕ → ℕ → List ℕ → List Bool
tests n f memory =
    are_servers_in_range n f
    ∷ eqb (length memory) client_length
    ∷ ltb (get_or memory reads_at 0) (2 ^ tag_bits)
    ∷ is_sound_head (get_or memory phase_at 0) (get_or memory entry_at 0) (get_or memory counter_at 0)
    ∷ are_sound n (is_reading (phase_in memory)) (stores (phase_in memory)) (drop replies_at memory)
    ∷ []

pub memory_facts : (n f : ℕ) (memory : List ℕ) → is_sound_memory n f memory ≡ true → SoundMemory n f memory
unfolding is_sound_memory
memory_facts n f memory h = let passed = each (tests n f memory) h in search (leb-true, eqb-true, head_facts)

pub sound_by : (n f : ℕ) (memory : List ℕ) {b : Bool} → Passes (tests n f memory) b
    → b ≡ is_sound_memory n f memory
unfolding is_sound_memory
sound_by n f memory p = passes (tests n f memory) p

-- its client and its replies are sound
pub sound_parts : (d n f : ℕ) (memory : List ℕ) → 1 ≤ d → d ≤ most_clients → is_sound_memory n f memory ≡ true
    → is_sound (loaded d n f memory) (drop replies_at memory) ≡ true
sound_parts d n f memory low high h =
    let s = memory_facts n f memory h in
    let small = s.reads in
    of_both (loaded d n f memory) (drop replies_at memory)
    (client_sound (loaded d n f memory)
    (record { low = low; high = high; range = s.range; reads = omega arith; phase = s.head.sound }))
    (facts n (is_reading (phase_in memory)) (stores (phase_in memory)) (drop replies_at memory)
    s.replies)

-- a client that is sound with its replies makes a sound memory
pub sound_whole : (client : Client) (replies : List ℕ) → is_sound client replies ≡ true
    → is_sound_memory client.n client.f (head_of client.phase client.reads ++ replies) ≡ true
unfolding is_sound_memory
sound_whole client replies h =
    let memory = head_of client.phase client.reads ++ replies in
    let s = client_facts client (of_client client replies h) in
    let o = of_memory client replies h in
    let long : length memory ≡ client_length = omega (arith, o.long) in
    let replies : are_sound client.n (is_reading (phase_in memory))
    (stores (phase_in memory)) replies ≡ true =
    ap (λ (phase : Phase). are_sound client.n (is_reading phase) (stores phase) replies)
    (phase_again client.phase (counter_fits client.phase s.phase))
    ∙ sound client.n (is_reading client.phase) (stores client.phase) replies o in
    all_of (tests client.n client.f memory) (search (le-leb, eq-eqb, head_sound))

-- ---- loading what was stored

-- the memory shows the client again, where its replies do
pub view_store : (self : model.Client) → counter_in self.phase < 2 ^ 32 → self.reads.0 < 2 ^ 32
    → held self.phase self.reads (store_replies self) ≡ self → view (store self) ≡ self
view_store self count reads e = rw (phase_again self.phase count, mod_small self.reads.0 reads) e

pub load_stored : (client : Client) (memory : List ℕ) → counter_in client.phase < 2 ^ 32
    → client.reads.0 < 2 ^ 32
    → loaded client.number client.n client.f (stored memory client) ≡ client
load_stored client memory count reads =
    rw (phase_again client.phase count, mod_small client.reads.0 reads)

-- ---- storing what was loaded

module _ (n f : ℕ) (memory : List ℕ) (h : is_sound_memory n f memory ≡ true) where
  pub store_load : (d : ℕ) → stored memory (loaded d n f memory) ≡ memory
  store_load d =
      let s = memory_facts n f memory h in
      let reads : get_or memory reads_at 0 % 2 ^ 32 ≡ get_or memory reads_at 0 =
      mod_small (get_or memory reads_at 0) (let small = s.reads in omega arith) in
      rw (reads, s.head.same_code, s.head.same_entry, s.head.same_counter) (head_rest memory s.long)

  pub store_view : store (view memory) ≡ memory
  store_view =
      let phase = phase_in memory in
      let rest = drop replies_at memory in
      ap (λ (replies : List ℕ). head_of phase (reads_in memory) ++ replies)
      (store_held n (is_reading phase) (stores phase) rest
      (facts n (is_reading phase) (stores phase) rest (memory_facts n f memory h).replies) phase
      (reads_in memory))
      ∙ store_load 0

-- ---- every memory, and the first

pub store_length : (self : model.Client) → length (store self) ≡ client_length
unfolding store_replies
store_length self = simp (length-append, row_length)

pub store_new : store new_client ≡ replicate client_length 0
unfolding code_of entry_of counter_in
store_new = ap (λ (replies : List ℕ). head_of Idle (record { 0 = 0 }) ++ replies)
    (store_cleared Idle (record { 0 = 0 }))

-- ---- a client that is loaded from its memory

pub loaded_self : (client : Client) (d n f : ℕ) (memory : List ℕ) → client ≡ loaded d n f memory
    → client ≡ loaded client.number client.n client.f memory
loaded_self client d n f memory e = e ∙ ap (λ (x : Client). loaded x.number x.n x.f memory) (sym e)
