-- Sound channels hold messages that go their way, and messages that go their way are sound when they are
-- stored.
--
-- Why: the channels' own test asks of each message that it is well formed and goes its way. That is what a
-- client or a server sends (`Formats`).
-- Assumes nothing.
use Rattle.basics.proofs.Prelude.{◌≡◌, refl, ap, ◌∙◌, Bool, true, inl, inr, List, [], ◌∷◌, ℕ, ◌≤◌, ◌<◌}
use Rattle.basics.proofs.Prelude.{le-leb, lt-leb}
use Rattle.std.specs.Prelude.{Ok}
use mathlib.Core.List.{map}
use Rattle.register.proofs.Vocabulary.{Member, listed, all_pass, Message, well_formed, goes, FromClient}
use Rattle.register.proofs.Vocabulary.{FromServer}
use Rattle.basics.proofs.Cases.{both, both_of}
use Rattle.channel.specs.Memory.{upward, channels, count_at}
use Rattle.channel.specs.Sound.{is_down, sound, messages}
use Rattle.channel.proofs.Messages.{suits, messages_fit, messages_suit}
use Rattle.register.specs.WellFormed.{WellChannel}
use Rattle.state.proofs.Formats.{client_suits, server_suits, goes_up_lem, goes_down_lem}

-- ---- a test of all elements, member by member

all_member : {A : Type 0} (p : A → Bool) (l : List A) → all_pass (map p l) ≡ true → (m : A) → Member m l
    → p m ≡ true
all_member {A = A} p [] h m x'' = elim x'' [ ]
all_member p (x ∷ xs) h m (inl e) = ap p e ∙ (both (p x) (all_pass (map p xs)) h).0
all_member p (x ∷ xs) h m (inr n) = all_member p xs (both (p x) (all_pass (map p xs)) h).1 m n

member_all : {A : Type 0} (p : A → Bool) (l : List A) → ((m : A) → Member m l → p m ≡ true)
    → all_pass (map p l) ≡ true
member_all p [] h = refl
member_all p (x ∷ xs) h =
    both_of (p x) (all_pass (map p xs)) (h x (inl refl)) (member_all p xs (λ m n. h m (inr n)))

-- ---- channel i of sound memory

module _ (slots : List ℕ) (h : sound slots ≡ true) (i : ℕ) (inside : i < channels) where
  well_by : (Kind : Message → Type 0)
      → ((message : Message) → well_formed message ≡ true → goes (is_down i) (Ok message) ≡ true
      → Kind message)
      → WellChannel Kind (messages slots i)
  well_by Kind from =
      record {
        few = messages_fit slots h i inside;
        kinds = λ message member. let both_pass = both (well_formed message) (goes (is_down i) (Ok message))
            (all_member (suits i) (messages slots i) (messages_suit slots h i inside) message member) in
            from message both_pass.0 both_pass.1;
      }

  pub well_up : i < upward → WellChannel FromClient (messages slots i)
  well_up low = well_by FromClient
      (λ message well way. goes_up_lem message well (rw (lt-leb upward i low) at way))

  pub well_down : upward ≤ i → WellChannel FromServer (messages slots i)
  well_down high = well_by FromServer
      (λ message well way. goes_down_lem message well (rw (le-leb upward i high) at way))

-- no message waits where the count is 0
pub no_messages : (slots : List ℕ) (i : ℕ) → count_at slots i ≡ 0 → messages slots i ≡ []
unfolding messages listed
no_messages slots i e = rw e

-- ---- messages that are stored

module _ (i : ℕ) (l : List Message) where
  pub suits_up : i < upward → WellChannel FromClient l → all_pass (map (suits i) l) ≡ true
  suits_up low well = member_all (suits i) l
      (λ message member. rw (lt-leb upward i low) (client_suits message (well.kinds message member)))

  pub suits_down : upward ≤ i → WellChannel FromServer l → all_pass (map (suits i) l) ≡ true
  suits_down high well =
      member_all (suits i) l
      (λ message member. rw (le-leb upward i high) (server_suits message (well.kinds message member)))
