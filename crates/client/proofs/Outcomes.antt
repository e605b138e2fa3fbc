-- The outcome of the code's step is that of the model's: where nothing follows, where the replies are
-- emptied, and where a chosen pair leads to the next phase.
-- Assumes nothing.
use Rattle.basics.proofs.Prelude.{◌≡◌, refl, sym, ap, ◌∙◌, Bool, true, false, cond, List, [], Option}
use Rattle.basics.proofs.Prelude.{replicate, ℕ, ◌+◌, ◌^◌, ◌<◌, arith, eqb, eqb-false}
use Rattle.basics.proofs.Cases.{true_or_false}
use Rattle.register.proofs.Vocabulary.{Entry, Pair, WriteCounter, last_counter, pair_bits, counter, pair_of}
use Rattle.register.proofs.Vocabulary.{Response, is_reading, cleared, sends_nothing, counts, chosen}
use Rattle.register.proofs.Vocabulary.{concluded, after_choice}
use Rattle.register.specs.declared.Answer.{Answer}
use Rattle.register.specs.declared.Answer.TheVariants.{Went, Read, Spent}
use Rattle.register.specs.declared.Phase.{Phase}
use Rattle.register.specs.declared.Phase.TheVariants.{Idle, Reading, ReadingForWrite, Storing}
use Rattle.message.specs.Pair.{counter_bits}
use Rattle.message.proofs.Pairs.{counter_fits}
use Rattle.register.specs.Client as model
use Rattle.register.specs.Client.{not_old, valid}
use Rattle.std.specs.Prelude.{None, Some}
use Rattle.replies.specs.Replies.{store_replies, replies_length}
use Rattle.replies.specs.Loops.{held_in}
use Rattle.replies.proofs.Storing.{store_held, store_cleared}
use Rattle.client.specs.declared.Client.{Client}
use Rattle.client.specs.declared.Sends.{Sends}
use Rattle.client.specs.declared.Sends.TheVariants.{Nothing, Done, DoneAndWrite}
use Rattle.client.specs.declared.Transition.{Transition}
use Rattle.client.specs.State.{view, in_phase}
use Rattle.client.specs.Sound.{stores, is_sound}
use Rattle.client.specs.Outcome.{messages_of}
use Rattle.client.specs.Sends.{After, after, ends_with, stored, concluded_of, chosen_of}
use Rattle.client.proofs.Facts.{of_memory}

-- a sound state is the state of what it shows
pub store_view : (client : Client) (replies : List ℕ) → is_sound client replies ≡ true
    → store_replies (view client replies) ≡ replies
store_view client replies h =
    store_held client.n (is_reading client.phase) (stores client.phase) replies
    (of_memory client replies h) client.phase client.reads

-- nothing follows
abbrev pub kept : Client → Transition
kept client = record { client = client; sends = Nothing; answer = Went }

pub unchanged_is : (client : Client) (replies : List ℕ) (step : Transition) → is_sound client replies ≡ true
    → step ≡ kept client → after step replies ≡ stored client (sends_nothing (view client replies))
unchanged_is client replies step h e = rw (e, store_view client replies h)

-- the replies are emptied
abbrev empty : List ℕ
empty = replicate replies_length 0

pub empties : (client : Client) (phase : Phase) (sends : Sends) (answer : Answer)
    → after (record { client = in_phase client phase; sends = sends; answer = answer }) empty
    ≡ stored client
    (record { client = cleared phase client.reads; sends = messages_of sends; answer = answer })
empties client phase sends answer = rw (store_cleared phase client.reads)

-- ---- what a chosen pair leads to

module _ (client : Client) (pair : Pair) where
  abbrev concluded_in : Phase → After
  concluded_in phase = stored client (concluded client.n client.f client.number
      (view client empty) phase pair)

  -- a read ends: the phase is another than reading for a write
  abbrev NoWrite : Phase → Type 0
  NoWrite phase = (entry : Entry) → phase ≡ ReadingForWrite entry → ⊥

  ends_in : (phase : Phase) → is_reading phase ≡ true → NoWrite phase
      → after (ends_with client Done (Read pair)) empty ≡ concluded_in phase
  unfolding concluded is_reading
  ends_in Idle reading other = absurd (true_or_false false reading refl)
  ends_in Reading reading other = empties client Idle Done (Read pair)
  ends_in (ReadingForWrite entry) reading other = absurd (other entry refl)
  ends_in (Storing entry count) reading other = absurd (true_or_false false reading refl)

  pub read_ends : is_reading client.phase ≡ true → NoWrite client.phase
      → (step : Transition) → step ≡ ends_with client Done (Read pair)
      → after step empty ≡ concluded_of client pair
  read_ends reading other step e =
      ap (λ (x : Transition). after x empty) e ∙ ends_in client.phase reading other

  -- a write has the counter after the chosen one, if there is one
  module _ (entry : Entry) (writes : client.phase ≡ ReadingForWrite entry) (count : WriteCounter)
      (counter_is : count ≡ counter pair) (b : Bool) (last_is : b ≡ eqb count.0 last_counter) where
    abbrev above : WriteCounter
    above = record { 0 = (counter pair).0 + 1 }

    abbrev written_by : Bool → After
    written_by u =
        stored client (cond u (record {
          client = cleared Idle client.reads;
          sends = messages_of Done;
          answer = Spent;
        })
        (record {
          client = cleared (Storing entry above) client.reads;
          sends = messages_of (DoneAndWrite (pair_of above client.number entry));
          answer = Went;
        }))

    written_is : (u : Bool) → b ≡ u → written_by u ≡ concluded_of client pair
    unfolding concluded
    written_is u eu =
        ap written_by (sym eu ∙ last_is ∙ ap (λ (v : WriteCounter). eqb v.0 last_counter) counter_is)
        ∙ ap concluded_in (sym writes)

    pub write_spent : b ≡ true → (step : Transition) → step ≡ ends_with client Done Spent
        → after step empty ≡ concluded_of client pair
    write_spent last step et = rw et (empties client Idle Done Spent ∙ written_is true last)

    pub counter_room : b ≡ false → pair.0 < 2 ^ pair_bits → count.0 < last_counter
    counter_room more fits =
        let other = eqb-false count.0 last_counter (sym last_is ∙ more) in
        let same = ap (λ (v : WriteCounter). v.0) counter_is in
        omega (arith, counter_fits pair fits)

    module _ (more : b ≡ false) (next : WriteCounter) (next_is : next ≡ record { 0 = count.0 + 1 }) where
      pub next_fits : pair.0 < 2 ^ pair_bits → next.0 < 2 ^ counter_bits
      next_fits fits =
          let same = ap (λ (v : WriteCounter). v.0) next_is in omega (arith, counter_room more fits)

      pub write_goes : (own : Pair) → own ≡ pair_of next client.number entry → (self : Client)
          → self ≡ in_phase client (Storing entry next)
          → after (record { client = self; sends = DoneAndWrite own; answer = Went }) empty
          ≡ concluded_of client pair
      write_goes own eq self ex =
          let is : next ≡ above = next_is ∙ ap (λ (v : WriteCounter). record { 0 = v.0 + 1 }) counter_is in
          rw (ex, eq, is)
          (empties client (Storing entry above) (DoneAndWrite (pair_of above client.number entry)) Went
          ∙ written_is false more)

-- ---- the choice

-- what it leads to depends on the read number alone, while the client reads
concluded_same : (n f d : ℕ) (self other : model.Client) (phase : Phase) (pair : Pair)
    → self.reads ≡ other.reads → is_reading phase ≡ true
    → concluded n f d self phase pair ≡ concluded n f d other phase pair
unfolding concluded is_reading
concluded_same n f d self other Idle pair e h = absurd (true_or_false false h refl)
concluded_same n f d self other Reading pair e h = rw e
concluded_same n f d self other (ReadingForWrite entry) pair e h = rw e
concluded_same n f d self other (Storing entry count) pair e h = absurd (true_or_false false h refl)

module _ (client : Client) (replies : List ℕ) (found : Option Pair)
    (choice_is : found ≡ chosen client.n client.f 0 (held_in replies))
    (step : Transition) where
  abbrev chosen_by : Option Pair → After
  chosen_by pick = stored client
      (after_choice client.n client.f client.number (view client replies) pick)

  -- it depends on the replies alone
  same_choice : (pick : Option Pair) → found ≡ pick → chosen_by pick ≡ chosen_of client replies
  unfolding chosen counts not_old valid
  same_choice pick e = ap chosen_by (sym e ∙ choice_is)

  pub no_choice : is_sound client replies ≡ true → found ≡ None → step ≡ kept client
      → after step replies ≡ chosen_of client replies
  unfolding after_choice
  no_choice h e et = unchanged_is client replies step h et ∙ same_choice None e

  pub choice_leads : (pair : Pair) → is_reading client.phase ≡ true → found ≡ Some pair
      → (left : List ℕ) → left ≡ empty → after step empty ≡ concluded_of client pair
      → after step left ≡ chosen_of client replies
  unfolding after_choice
  choice_leads pair reading e left el et =
      ap (after step) el ∙ et ∙ ap (λ (response : Response). stored client response)
      (concluded_same client.n client.f client.number (view client empty)
      (view client replies) client.phase pair refl reading)
      ∙ same_choice (Some pair) e

-- what is sent in each case
module _ (client : Client) (replies : List ℕ) (found : Option Pair)
    (choice_is : found ≡ chosen client.n client.f 0 (held_in replies)) where
  pub no_choice_sends : is_sound client replies ≡ true → found ≡ None
      → [] ≡ (chosen_of client replies).sends
  no_choice_sends h e =
      ap (λ (a : After). a.sends) (no_choice client replies found choice_is (kept client) h e refl)

  pub choice_sends : (step : Transition) (pair : Pair) → is_reading client.phase ≡ true
      → found ≡ Some pair → after step empty ≡ concluded_of client pair
      → messages_of step.sends ≡ (chosen_of client replies).sends
  choice_sends step pair reading e et =
      ap (λ (a : After). a.sends)
      (choice_leads client replies found choice_is step pair reading e empty refl et)
