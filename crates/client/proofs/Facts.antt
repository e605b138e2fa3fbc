-- The tests of a sound client and its memory, as facts and made again from facts; and what code that tests in
-- a row has found.
-- Assumes nothing.
use mathlib.Core.Bool.{and-true}
use Rattle.register.proofs.Vocabulary.{all_pass, Entry, WriteCounter, tag_bits, counter_bits, client_bits}
use Rattle.register.proofs.Vocabulary.{entry_bits, most_clients, are_servers_in_range, entry_of, is_reading}
use Rattle.register.proofs.Vocabulary.{is_storing}
use Rattle.register.specs.declared.Phase.{Phase}
use Rattle.register.specs.declared.Phase.TheVariants.{Idle, Reading, ReadingForWrite, Storing}
use Rattle.basics.proofs.Prelude.{◌≡◌, refl, sym, ap, ◌∙◌, Bool, true, false, not, List, [], ◌∷◌, ℕ, ◌^◌, ◌≤◌}
use Rattle.basics.proofs.Prelude.{◌<◌, arith, leb, ltb, eqb-true, leb-true, le-leb, ltb-true, not-true}
use Rattle.basics.proofs.Prelude.{not-false}
use Rattle.basics.proofs.Cases.{both, both_of, true_or_false}
use Rattle.basics.proofs.Tests.{each, all_of}
use Rattle.licence.specs.Entry.{is_licence, is_licensed, fields_of}
use Rattle.replies.specs.Sound.{are_sound}
use Rattle.replies.proofs.Soundness.{Sound, facts, sound}
use Rattle.client.specs.declared.Client.{Client}
use Rattle.client.specs.Sound.{is_sound_phase, stores, is_sound_client, is_sound}

-- a licence entry has forty bits
pub licence_fits : (entry : ℕ) → is_licence entry ≡ true → entry < 2 ^ entry_bits
unfolding is_licence
licence_fits entry h =
    ltb-true entry (2 ^ entry_bits) (both (ltb entry (2 ^ entry_bits)) (is_licensed (fields_of entry)) h).0

-- the entry and the counter of a phase have their widths
pub storing_fits : (phase : Phase) (count : WriteCounter) → is_storing phase count ≡ true
    → is_sound_phase phase ≡ true → ((entry_of phase).0 < 2 ^ entry_bits) × (count.0 < 2 ^ counter_bits)
unfolding is_storing is_sound_phase entry_of
storing_fits Idle count e h = absurd (true_or_false false e refl)
storing_fits Reading count e h = absurd (true_or_false false e refl)
storing_fits (ReadingForWrite entry) count e h = absurd (true_or_false false e refl)
storing_fits (Storing entry own) count e h =
    let parts = both (is_licence entry.0) (ltb own.0 (2 ^ counter_bits)) h in
    let same = eqb-true own.0 count.0 e in
    (licence_fits entry.0 parts.0, omega (arith, ltb-true own.0 (2 ^ counter_bits) parts.1))

pub storing_is : (phase : Phase) (count : WriteCounter) → is_storing phase count ≡ true → stores phase ≡ true
unfolding is_storing stores
storing_is Idle count e = e
storing_is Reading count e = e
storing_is (ReadingForWrite entry) count e = e
storing_is (Storing entry own) count e = refl

pub record ClientSound (client : Client) : Type 0 where
  pub low : 1 ≤ client.number
  pub high : client.number ≤ most_clients
  pub range : are_servers_in_range client.n client.f ≡ true
  pub reads : client.reads.0 < 2 ^ tag_bits
  pub phase : is_sound_phase client.phase ≡ true

abbrev tests : Client → List Bool
tests client =
    leb 1 client.number ∷ leb client.number most_clients ∷ are_servers_in_range client.n client.f
    ∷ ltb client.reads.0 (2 ^ tag_bits)
    ∷ is_sound_phase client.phase ∷ []

pub client_facts : (client : Client) → is_sound_client client ≡ true → ClientSound client
unfolding is_sound_client
client_facts client h = let passed = each (tests client) h in search leb-true

pub client_sound : (client : Client) → ClientSound client → is_sound_client client ≡ true
unfolding is_sound_client
client_sound client s = all_of (tests client) (search le-leb)

pub client_number : (client : Client) → is_sound_client client ≡ true → client.number < 2 ^ client_bits
client_number client h = let s = client_facts client h in omega arith

pub writing_fits : (client : Client) (entry : Entry) → client.phase ≡ ReadingForWrite entry
    → is_sound_client client ≡ true → entry.0 < 2 ^ entry_bits
unfolding is_sound_phase
writing_fits client entry e h =
    licence_fits entry.0 (ap is_sound_phase (sym e) ∙ (client_facts client h).phase)

-- the client, and its memory in its phase
abbrev pub MemorySound : Client → List ℕ → Type 0
MemorySound client replies = Sound client.n (is_reading client.phase)
    (stores client.phase) replies

abbrev pub sound_in : Client → List ℕ → Bool
sound_in client replies = are_sound client.n (is_reading client.phase)
    (stores client.phase) replies

pub of_client : (client : Client) (replies : List ℕ) → is_sound client replies ≡ true
    → is_sound_client client ≡ true
unfolding is_sound
of_client client replies h = (both (is_sound_client client) (sound_in client replies) h).0

pub of_memory : (client : Client) (replies : List ℕ) → is_sound client replies ≡ true
    → MemorySound client replies
unfolding is_sound
of_memory client replies h =
    facts client.n (is_reading client.phase) (stores client.phase) replies
    (both (is_sound_client client) (sound_in client replies) h).1

pub of_both : (client : Client) (replies : List ℕ) → is_sound_client client ≡ true → MemorySound client replies
    → is_sound client replies ≡ true
unfolding is_sound
of_both client replies h s =
    both_of (is_sound_client client) (sound_in client replies) h
    (sound client.n (is_reading client.phase) (stores client.phase) replies s)

-- ---- what a test of the code says

pub holds : (b t : Bool) → b ≡ t → not b ≡ false → t ≡ true
holds b t e n = sym e ∙ not-false b n

pub fails : (b t : Bool) → b ≡ t → not b ≡ true → t ≡ false
fails b t e n = sym e ∙ not-true b n

-- tests in a row: `pass` where one passes, `fail` where it does not, `last` for the value of the last
pub data Passes : List Bool → Bool → Type 0 where
  last : {a b : Bool} → b ≡ a → Passes (a ∷ []) b
  fail : {a : Bool} {l : List Bool} → a ≡ false → Passes (a ∷ l) false
  pass : {a b : Bool} {l : List Bool} → a ≡ true → Passes l b → Passes (a ∷ l) b

pub passes : {b : Bool} (l : List Bool) → Passes l b → b ≡ all_pass l
passes {b = b} [] x' = elim x' [ ]
passes (a ∷ []) (last e) = e ∙ sym (and-true a)
passes (a ∷ l) (fail e) = rw e
passes (a ∷ l) (pass e rest) = rw e (passes l rest)
