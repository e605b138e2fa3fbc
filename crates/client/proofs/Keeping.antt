-- Every state that the model's client can reach from a sound one is kept: stored, it is sound and shows that
-- client again, as a client with its replies and so as a memory (`kept_memory`).
--
-- Either the next client is what a sound memory shows (`kept_view`), or its memory is empty and its phase and
-- read number are sound (`kept_cleared`); one message leads to one or the other (`kept_taken`).
-- Assumes nothing.
use Rattle.basics.proofs.Prelude.{◌≡◌, refl, sym, ap, ◌∙◌, subst, true, false, List, replicate, ℕ, ◌+◌, ◌-◌}
use Rattle.basics.proofs.Prelude.{◌^◌, ◌≤◌, ◌<◌, arith, eqb, ltb, eqb-false, ltb-true, lt-ltb}
use Rattle.basics.proofs.Cases.{by_test, by_option, both, both_of, true_or_false}
use Rattle.licence.specs.Entry.{is_licence}
use Rattle.register.proofs.Vocabulary.{Message, GetInfo, Info, Done, WriteInfo, Fwd, WriteAck, Pair}
use Rattle.register.proofs.Vocabulary.{ReadNumber, WriteCounter, pair_bits, counter, tag_bits, counter_bits}
use Rattle.register.proofs.Vocabulary.{last_read, last_counter, well_formed, counted, enough, is_reading}
use Rattle.register.proofs.Vocabulary.{is_storing, cleared, with_pair, with_info, with_ack, chosen, concluded}
use Rattle.register.proofs.Vocabulary.{after_choice, acknowledged, uses_info, client_takes, started, next_read}
use Rattle.register.specs.declared.Phase.{Phase}
use Rattle.register.specs.declared.Phase.TheVariants.{Idle, Reading, ReadingForWrite, Storing}
use Rattle.message.proofs.Pairs as pairs
use Rattle.register.specs.Client as model
use Rattle.replies.specs.Replies.{held, store_replies, put_ack, replies_length}
use Rattle.replies.proofs.Storing.{store_cleared}
use Rattle.replies.proofs.Views.{empty_noted, empty_sets, empty_acks}
use Rattle.client.specs.declared.Client.{Client}
use Rattle.client.specs.State.{view, store_client, in_phase}
use Rattle.client.specs.Memory as memory
use Rattle.client.specs.Memory.{store}
use Rattle.client.specs.Sends.{followed}
use Rattle.client.specs.Sound.{is_sound_phase, is_sound_client, is_sound, is_sound_memory}
use Rattle.client.proofs.Facts.{of_client, client_facts, client_sound, storing_is}
use Rattle.client.proofs.Fitting.{Words, SetsFit, shown_fit, pair_fits, info_fits, chosen_fits}
use Rattle.client.proofs.Heads.{counter_fits}
use Rattle.client.proofs.Memory.{sound_whole, view_store}
use Rattle.client.proofs.Outcomes.{store_view}
use Rattle.client.proofs.Shown.{paired, informed, pair_view, info_view, ack_view, pair_sound}
use Rattle.client.proofs.Shown.{info_sound, ack_sound, empty_keeps}
use Rattle.client.proofs.Taking.{takes_reading}

-- the model's client, as the next state of a client
pub record Kept (client : Client) (self : model.Client) : Type 0 where
  pub shows : view (store_client client.number client.n client.f self) (store_replies self) ≡ self
  pub sound : is_sound (store_client client.number client.n client.f self) (store_replies self) ≡ true

-- it in its memory, of n servers of which f may be faulty
pub record KeptMemory (n f : ℕ) (self : model.Client) : Type 0 where
  pub shows : memory.view (store self) ≡ self
  pub sound : is_sound_memory n f (store self) ≡ true

pub kept_memory : (client : Client) (self : model.Client) → Kept client self
    → KeptMemory client.n client.f self
kept_memory client self kept =
    let next = store_client client.number client.n client.f self in
    let facts = client_facts next (of_client next (store_replies self) kept.sound) in
    let small = facts.reads in
    record {
      shows = view_store self (counter_fits self.phase facts.phase) (omega arith) kept.shows;
      sound = sound_whole next (store_replies self) kept.sound;
    }

pub kept_view : (client : Client) (replies : List ℕ) → is_sound client replies ≡ true
    → Kept client (view client replies)
kept_view client replies h =
    record {
      shows = ap (view client) (store_view client replies h);
      sound = ap (is_sound client) (store_view client replies h) ∙ h;
    }

pub empty_shows : (phase : Phase) (reads : ReadNumber)
    → held phase reads (replicate replies_length 0) ≡ cleared phase reads
empty_shows phase reads =
    λ q. record {
      phase = phase;
      reads = reads;
      noted = empty_noted q;
      sets = empty_sets q;
      acks = empty_acks q;
    }

pub kept_cleared : (client : Client) (phase : Phase) (reads : ReadNumber)
    → is_sound_client (store_client client.number client.n client.f (cleared phase reads)) ≡ true
    → Kept client (cleared phase reads)
kept_cleared client phase reads h =
    let next = store_client client.number client.n client.f (cleared phase reads) in
    record {
      shows = ap (view next) (store_cleared phase reads) ∙ empty_shows phase reads;
      sound = ap (is_sound next) (store_cleared phase reads) ∙ empty_keeps next h;
    }

-- the same client in another sound phase
in_phase_lem : (client : Client) (phase : Phase) → is_sound_client client ≡ true → is_sound_phase phase ≡ true
    → is_sound_client (in_phase client phase) ≡ true
in_phase_lem client phase h e =
    let facts = client_facts client h in
    client_sound (in_phase client phase)
    (record { low = facts.low; high = facts.high; range = facts.range; reads = facts.reads; phase = e })

pub kept_idle : (client : Client) → is_sound_client client ≡ true → Kept client (cleared Idle client.reads)
unfolding is_sound_phase
kept_idle client h = kept_cleared client Idle client.reads (in_phase_lem client Idle h refl)

-- a start
pub kept_started : (client : Client) (replies : List ℕ) (phase : Phase) → is_sound_client client ≡ true
    → client.reads.0 < last_read → is_sound_phase phase ≡ true
    → Kept client (started (view client replies) phase)
unfolding started next_read
kept_started client replies phase h room e =
    let facts = client_facts client h in
    let next : ReadNumber = record { 0 = client.reads.0 + 1 } in
    kept_cleared client phase next
    (client_sound (store_client client.number client.n client.f (cleared phase next))
    (record { low = facts.low; high = facts.high; range = facts.range; reads = omega arith; phase = e }))

-- ---- a chosen pair

module _ (client : Client) (h : is_sound_client client ≡ true) (self : model.Client)
    (same : self.reads ≡ client.reads) where
  kept_concluded : (phase : Phase) (pair : Pair) → client.phase ≡ phase → is_reading phase ≡ true
      → pair.0 < 2 ^ pair_bits
      → Kept client (concluded client.n client.f client.number self phase pair).client
  unfolding concluded is_reading is_sound_phase
  kept_concluded Idle pair e reading fits = absurd (true_or_false false reading refl)
  kept_concluded Reading pair e reading fits = rw same (kept_idle client h)
  kept_concluded (ReadingForWrite entry) pair e reading fits =
      by_test (eqb (counter pair).0 last_counter) (λ t. rw (t, same) (kept_idle client h))
      (λ t. rw (t, same)
      (let next : WriteCounter = record { 0 = (counter pair).0 + 1 } in
      let licence : is_licence entry.0 ≡ true = ap is_sound_phase (sym e) ∙ (client_facts client h).phase in
      let other = eqb-false (counter pair).0 last_counter t in
      let room : next.0 < 2 ^ counter_bits = omega (arith, pairs.counter_fits pair fits) in
      kept_cleared client (Storing entry next) client.reads (in_phase_lem client (Storing entry next) h
      (both_of (is_licence entry.0) (ltb next.0 (2 ^ counter_bits)) licence
      (lt-ltb next.0 (2 ^ counter_bits) room)))))
  kept_concluded (Storing entry count) pair e reading fits = absurd (true_or_false false reading refl)

kept_followed : (client : Client) (replies : List ℕ) → is_sound client replies ≡ true
    → is_reading client.phase ≡ true → SetsFit (view client replies)
    → Kept client (followed client (view client replies)).client
unfolding after_choice
kept_followed client replies h reading fit =
    by_option (chosen client.n client.f client.number (view client replies))
    (λ e. rw e (kept_view client replies h))
    (λ pair e. rw e
    (kept_concluded client (of_client client replies h) (view client replies) refl client.phase pair refl
    reading (chosen_fits client.n client.f client.number (view client replies) pair fit e)))

-- ---- one message of a server

module _ (client : Client) (replies : List ℕ) (k : ℕ) (h : is_sound client replies ≡ true) (low : 1 ≤ k)
    (high : k ≤ client.n) (words : Words replies) where
  abbrev next : model.Client → model.Client
  next self = (followed client self).client

  -- once a pair is collected
  kept_pair : (self : model.Client) (left : List ℕ) → view client left ≡ self → is_sound client left ≡ true
      → is_reading client.phase ≡ true → SetsFit self → Kept client (next self)
  kept_pair self left e sound reading fit =
      subst (λ (y : model.Client). Kept client (next y)) e
      (kept_followed client left sound reading (subst SetsFit (sym e) fit))

  kept_ack : (count : WriteCounter) → is_storing client.phase count ≡ true
      → Kept client (acknowledged client.n client.f client.number
      (with_ack (view client replies) k) count).client
  unfolding acknowledged
  kept_ack count storing =
      let left = put_ack replies (k - 1) in
      subst (λ (self : model.Client). Kept client (acknowledged client.n client.f
      client.number self count).client)
      (ack_view client replies k h low high)
      (by_test (enough client.n client.f (counted (view client left).acks client.n))
      (λ t. rw t (kept_idle client (of_client client replies h)))
      (λ t. rw t (kept_view client left (ack_sound client replies k h low high
      (storing_is client.phase count storing)))))

  pub kept_taken : (message : Message) → well_formed message ≡ true
      → Kept client (client_takes client.n client.f client.number
      (view client replies) k message).client
  unfolding client_takes uses_info well_formed
  kept_taken (GetInfo tag) formed = kept_view client replies h
  kept_taken (Info tag pair) formed =
      let parts = both (ltb tag.0 (2 ^ tag_bits)) (ltb pair.0 (2 ^ pair_bits)) formed in
      let fits = ltb-true pair.0 (2 ^ pair_bits) parts.1 in
      by_test (uses_info (view client replies) k tag)
      (λ e. let reading = takes_reading client replies k tag e in
      rw e (kept_pair (with_info (view client replies) k pair) (informed replies (k - 1) pair)
      (info_view client replies k h low high pair)
      (info_sound client replies k h low high reading pair fits) reading
      (info_fits (view client replies) k pair fits (shown_fit client replies words))))
      (λ e. rw e (kept_view client replies h))
  kept_taken Done formed = kept_view client replies h
  kept_taken (WriteInfo pair) formed = kept_view client replies h
  kept_taken (Fwd pair) formed =
      let fits = ltb-true pair.0 (2 ^ pair_bits) formed in
      by_test (is_reading client.phase)
      (λ e. rw e (kept_pair (with_pair (view client replies) k pair) (paired replies (k - 1) pair)
      (pair_view client replies k h low high pair)
      (pair_sound client replies k h low high e pair) e (pair_fits (view client replies) k pair fits
      (shown_fit client replies words))))
      (λ e. rw e (kept_view client replies h))
  kept_taken (WriteAck count) formed =
      by_test (is_storing client.phase count) (λ e. rw e (kept_ack count e))
      (λ e. rw e (kept_view client replies h))
