-- The cases of one message: which test of the model's decides, and what follows then.
-- Assumes nothing.
use Rattle.basics.proofs.Prelude.{◌≡◌, refl, sym, ap, ◌∙◌, subst, Bool, true, false, cond, not, ◌&&◌, List}
use Rattle.basics.proofs.Prelude.{[], length, replicate, ℕ, suc, ◌-◌, ◌^◌, ◌≤◌, ◌<◌, arith, eqb}
use Rattle.basics.proofs.Cases.{by_test, both, true_or_false}
use Rattle.register.proofs.Vocabulary.{Message, GetInfo, Info, Done, WriteInfo, Fwd, WriteAck, Pair}
use Rattle.register.proofs.Vocabulary.{ReadNumber, WriteCounter, pair_bits, stamp, pair_of, counted}
use Rattle.register.proofs.Vocabulary.{enough, is_reading, is_storing, is_noted, cleared, sends_nothing, with_ack}
use Rattle.register.proofs.Vocabulary.{entry_of, acknowledged, uses_info, client_takes}
use Rattle.register.specs.declared.Answer.TheVariants.{Wrote}
use Rattle.register.specs.declared.Phase.TheVariants.{Idle}
use Rattle.message.specs.Pair.{counter_bits, entry_bits}
use Rattle.message.proofs.Pairs.{stamp_fits}
use Rattle.register.specs.Client as model
use Rattle.replies.specs.Replies.{noted_in, ack_in, put_note, put_ack, Padded, replies_length}
use Rattle.client.specs.declared.Client.{Client}
use Rattle.client.specs.declared.Sends.TheVariants.{Nothing}
use Rattle.client.specs.declared.Transition.{Transition}
use Rattle.client.specs.State.{view}
use Rattle.client.specs.Sound.{is_sound}
use Rattle.client.specs.Sends.{After, after, ends_with, stored, followed, chosen_of, received_of}
use Rattle.client.specs.Collecting.{is_collected, with_reply, Collected, received_pair_of}
use Rattle.client.proofs.Facts.{storing_is, client_facts, of_client, storing_fits}
use Rattle.client.proofs.Outcomes.{kept, unchanged_is, empties}
use Rattle.client.proofs.Shown as shown
use Rattle.client.proofs.Shown.{paired, informed, pair_view, info_view, ack_view, pair_sound}
use Rattle.client.proofs.Shown.{info_sound, sound_long, note_sound, place, padded_at}

module _ (client : Client) (replies : List ℕ) (k : ℕ) where
  -- ---- whether an INFO is taken, by its three tests

  abbrev takes : ReadNumber → Bool
  takes tag = uses_info (view client replies) k tag

  pub info_late : (tag : ReadNumber) → is_reading client.phase ≡ false → false ≡ takes tag
  unfolding uses_info
  info_late tag e = rw e

  pub info_other : (tag : ReadNumber) → is_reading client.phase ≡ true
      → eqb tag.0 client.reads.0 ≡ false → false ≡ takes tag
  unfolding uses_info
  info_other tag e same = rw (e, same)

  pub info_first : (tag : ReadNumber) → is_reading client.phase ≡ true
      → eqb tag.0 client.reads.0 ≡ true
      → (b : Bool) → b ≡ is_noted (noted_in replies (suc (k - 1))) → 1 ≤ k → not b ≡ takes tag
  unfolding uses_info
  info_first tag e same b told low =
      let number : suc (k - 1) ≡ k = omega arith in
      rw (e, same, told) (ap (λ (j : ℕ). not (is_noted (noted_in replies j))) number)

  pub takes_reading : (tag : ReadNumber) → takes tag ≡ true → is_reading client.phase ≡ true
  unfolding uses_info
  takes_reading tag e =
      let this = is_reading client.phase && eqb tag.0 client.reads.0 in
      (both (is_reading client.phase) (eqb tag.0 client.reads.0)
      (both this (not (is_noted (noted_in replies k))) e).0).0

  -- ---- collecting

  pub not_collected : (message : Message) → is_collected client replies k message ≡ false
      → is_sound client replies ≡ true → Collected client replies k message false replies
  not_collected message e h = record { told = sym e; shows = rw e; sound = h }

  pub same_kind : (message other : Message) (b : Bool) (left : List ℕ) → message ≡ other
      → Collected client replies k other b left → Collected client replies k message b left
  same_kind message other b left e =
      subst (λ (kind : Message). Collected client replies k kind b left) (sym e)

  -- a FWD adds its pair
  pub fwd_collected : (pair : Pair) (left : List ℕ) → is_sound client replies ≡ true → 1 ≤ k
      → k ≤ client.n
      → is_reading client.phase ≡ true → left ≡ paired replies (k - 1) pair
      → Collected client replies k (Fwd pair) true left
  unfolding is_collected with_reply
  fwd_collected pair left h low high reading e =
      record {
        told = sym reading;
        shows = rw (reading, e) (pair_view client replies k h low high pair);
        sound = rw e (pair_sound client replies k h low high reading pair);
      }

  -- an INFO is noted, and then its pair is added
  module _ (noted : List ℕ) (number : ℕ) (pair : Pair) (tag : ReadNumber) (b : Bool)
      (noted_is : noted ≡ put_note replies (k - 1) number) (stamp_is : number ≡ stamp pair)
      (fits : pair.0 < 2 ^ pair_bits) (told : b ≡ takes tag) (n : b ≡ true)
      (h : is_sound client replies ≡ true) (low : 1 ≤ k) (high : k ≤ client.n) where
    taken : takes tag ≡ true
    taken = sym told ∙ n

    reading : is_reading client.phase ≡ true
    reading = takes_reading tag taken

    noted_sound : is_sound client noted ≡ true
    noted_sound =
        rw (noted_is, stamp_is)
        (note_sound client replies k h low high reading (stamp pair) (stamp_fits pair fits))

    pub noted_long : length noted ≡ replies_length
    noted_long = sound_long client noted noted_sound

    pub noted_padded : Padded noted (k - 1)
    noted_padded = padded_at client noted noted_sound (k - 1) (place client replies k h low high)

    pub info_collected : (left : List ℕ) → left ≡ paired noted (k - 1) pair
        → Collected client replies k (Info tag pair) true left
    unfolding is_collected with_reply
    info_collected left e =
        let is : left ≡ informed replies (k - 1) pair =
        e ∙ ap (λ (memory : List ℕ). paired memory (k - 1) pair)
        (noted_is ∙ ap (put_note replies (k - 1)) stamp_is) in
        record {
          told = sym taken;
          shows = rw (taken, is) (info_view client replies k h low high pair);
          sound = rw is (info_sound client replies k h low high reading pair fits);
        }

  -- a client that collects reads
  pub collects_reading : (message : Message) → is_collected client replies k message ≡ true
      → is_reading client.phase ≡ true
  unfolding is_collected
  collects_reading (GetInfo tag) e = absurd (true_or_false false e refl)
  collects_reading (Info tag pair) e = takes_reading tag e
  collects_reading Done e = absurd (true_or_false false e refl)
  collects_reading (WriteInfo pair) e = absurd (true_or_false false e refl)
  collects_reading (Fwd pair) e = e
  collects_reading (WriteAck count) e = absurd (true_or_false false e refl)

  -- the choice, or nothing, follows
  module _ (message : Message) (b : Bool) (left : List ℕ)
      (done : Collected client replies k message b left) where
    pub collected_reading : b ≡ true → is_reading client.phase ≡ true
    collected_reading n =
        collects_reading message (sym done.told ∙ n)

    pub follows : b ≡ true → (outcome : After) → outcome ≡ chosen_of client left
        → outcome ≡ received_pair_of client replies k message
    follows n outcome e =
        let yes = sym done.told ∙ n in
        e ∙ rw yes (ap (λ (self : model.Client). stored client (followed client self)) (done.shows ∙ rw yes))

    pub dropped : b ≡ false → (step : Transition) → step ≡ kept client
        → after step left ≡ received_pair_of client replies k message
    dropped n step e =
        let no = sym done.told ∙ n in
        rw no (unchanged_is client left step done.sound e
        ∙ ap (λ (self : model.Client). stored client (sends_nothing self)) (done.shows ∙ rw no))

    -- and what is sent in each case
    pub follows_sends : b ≡ true → (sent : List Message) → sent ≡ (chosen_of client left).sends
        → sent ≡ (received_pair_of client replies k message).sends
    follows_sends n sent e = e ∙ ap (λ (a : After). a.sends) (follows n (chosen_of client left) refl)

    pub drops_silently : b ≡ false → [] ≡ (received_pair_of client replies k message).sends
    drops_silently n = ap (λ (a : After). a.sends) (dropped n (kept client) refl)

  -- a WRITE_ACK sends nothing
  pub pair_sends : (message : Message)
      → (received_pair_of client replies k message).sends ≡ (received_of client replies k message).sends
  unfolding is_collected with_reply uses_info client_takes acknowledged
  pair_sends (GetInfo tag) = refl
  pair_sends (Info tag pair) = refl
  pair_sends Done = refl
  pair_sends (WriteInfo pair) = refl
  pair_sends (Fwd pair) = refl
  pair_sends (WriteAck count) =
      by_test (is_storing client.phase count)
      (λ t. rw t (by_test (enough client.n client.f
      (counted (with_ack (view client replies) k).acks client.n))
      (λ u. rw u) (λ u. rw u))) (λ t. rw t)

-- ---- WRITE_ACK

module _ (client : Client) (replies : List ℕ) (k : ℕ) (h : is_sound client replies ≡ true)
    (counter : WriteCounter) (b : Bool) (told : b ≡ is_storing client.phase counter) where
  -- of another write, or outside one, it is dropped
  pub ack_dropped : b ≡ false → (step : Transition) → step ≡ kept client
      → after step replies ≡ received_of client replies k (WriteAck counter)
  unfolding client_takes
  ack_dropped n step e =
      rw (sym told ∙ n) (unchanged_is client replies step h e)

  -- otherwise it is noted
  module _ (low : 1 ≤ k) (high : k ≤ client.n) (n : b ≡ true) (left : List ℕ)
      (noted : left ≡ put_ack replies (k - 1))
    where
      storing : is_storing client.phase counter ≡ true
      storing = sym told ∙ n

      pub ack_sound : is_sound client left ≡ true
      ack_sound =
          rw noted (shown.ack_sound client replies k h low high (storing_is client.phase counter storing))

      fits : ((entry_of client.phase).0 < 2 ^ entry_bits) × (counter.0 < 2 ^ counter_bits)
      fits =
          storing_fits client.phase counter storing (client_facts client
          (of_client client replies h)).phase

      pub ack_counter : counter.0 < 2 ^ counter_bits
      ack_counter = fits.1

      pub ack_entry : (entry : ℕ) → entry ≡ (entry_of client.phase).0 → entry < 2 ^ entry_bits
      ack_entry entry ee = rw ee fits.0

      pub ack_long : length left ≡ replies_length
      ack_long = sound_long client left ack_sound

      -- and enough of them end the write
      module _ (count : ℕ) (counted_is : count ≡ counted (ack_in left) client.n) (is_enough : Bool)
          (enough_is : is_enough ≡ enough client.n client.f count) (step : Transition) where
        abbrev acked : Bool → After
        acked ended =
            stored client (cond ended
            (record {
              client = cleared Idle client.reads;
              sends = [];
              answer = Wrote (pair_of counter client.number (entry_of client.phase));
            })
            (sends_nothing (view client left)))

        acked_is : (ended : Bool) → is_enough ≡ ended
            → acked ended ≡ received_of client replies k (WriteAck counter)
        unfolding client_takes acknowledged
        acked_is ended e =
            ap acked (sym e ∙ enough_is ∙ ap (enough client.n client.f) counted_is)
            ∙ ap (λ (self : model.Client). stored client (acknowledged client.n client.f
            client.number self counter))
            (ap (view client) noted ∙ ack_view client replies k h low high)
            ∙ rw storing

        pub ack_waits : is_enough ≡ false → step ≡ kept client
            → after step left ≡ received_of client replies k (WriteAck counter)
        ack_waits few e = unchanged_is client left step ack_sound e ∙ acked_is false few

        pub ack_ends : is_enough ≡ true → (emptied : List ℕ) → emptied ≡ replicate replies_length 0
            → (entry : ℕ) → entry ≡ (entry_of client.phase).0 → (pair : Pair)
            → pair ≡ pair_of counter client.number (record { 0 = entry })
            → step ≡ ends_with client Nothing (Wrote pair)
            → after step emptied ≡ received_of client replies k (WriteAck counter)
        ack_ends many emptied el entry ee pair ep et =
            rw (et, el, ep, ee) (empties client Idle Nothing
            (Wrote (pair_of counter client.number (entry_of client.phase)))
            ∙ acked_is true many)
