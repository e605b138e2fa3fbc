-- What a client's memory shows after each change of it: the model's change. And every change keeps the state
-- sound.
-- Assumes nothing.
use Rattle.basics.proofs.Prelude.{◌≡◌, ap, ◌∙◌, true, List, length, replicate, ℕ, suc, ◌-◌, ◌^◌, ◌≤◌, ◌<◌}
use Rattle.basics.proofs.Prelude.{arith}
use Rattle.register.proofs.Vocabulary.{Pair, stamp_bits, pair_bits, stamp, add, most_servers}
use Rattle.register.proofs.Vocabulary.{set_limit, is_reading, with_pair, with_info, with_ack}
use Rattle.message.specs.Pair.{client_bits}
use Rattle.message.proofs.Pairs.{stamp_fits}
use Rattle.replies.specs.Replies.{set_in, put_note, put_ack, put_set, Padded, replies_length}
use Rattle.register.proofs.Bounds.{servers_in_range}
use Rattle.replies.proofs.Places.{size_most}
use Rattle.replies.proofs.Soundness as soundness
use Rattle.replies.proofs.Soundness.{set_sound, empty_sound, add_length, padded}
use Rattle.replies.proofs.Views.{note_length, note_noted, note_sets, note_acks, set_noted, set_sets, set_acks}
use Rattle.replies.proofs.Views.{ack_noted, ack_sets, ack_acks}
use Rattle.client.specs.declared.Client.{Client}
use Rattle.client.specs.State.{view}
use Rattle.client.specs.Sound.{stores, is_sound_client, is_sound}
use Rattle.client.proofs.Facts.{of_client, of_memory, of_both, client_facts, client_number}

-- the memory with a pair added, and with its timestamp noted too
abbrev pub paired : List ℕ → ℕ → Pair → List ℕ
paired replies i pair = put_set replies i (add set_limit pair (set_in replies (suc i)))

abbrev pub informed : List ℕ → ℕ → Pair → List ℕ
informed replies i pair = paired (put_note replies i (stamp pair)) i pair

module _ (client : Client) (replies : List ℕ) (i : ℕ) (long : length replies ≡ replies_length)
    (ih : i < most_servers) where
  small : (memory : List ℕ) (pair : Pair) → length memory ≡ replies_length
      → length (add set_limit pair (set_in memory (suc i))) ≤ set_limit
  small memory pair lm = add_length set_limit pair (set_in memory (suc i)) (size_most memory i lm ih)

  pair_shown : (pair : Pair) → view client (paired replies i pair) ≡ with_pair (view client replies)
      (suc i) pair
  unfolding with_pair
  pair_shown pair =
      let pairs = add set_limit pair (set_in replies (suc i)) in
      let few = small replies pair long in
      rw (
        set_noted replies i pairs long ih few,
        set_sets replies i pairs long ih few,
        set_acks replies i pairs long ih few,
      )

  info_shown : (pair : Pair) → view client (informed replies i pair) ≡ with_info (view client replies)
      (suc i) pair
  unfolding with_info
  info_shown pair =
      let noted = put_note replies i (stamp pair) in
      let ln = note_length replies i (stamp pair) long ih in
      let pairs = add set_limit pair (set_in noted (suc i)) in
      let few = small noted pair ln in
      rw (
        set_noted noted i pairs ln ih few,
        set_sets noted i pairs ln ih few,
        set_acks noted i pairs ln ih few,
      ) (rw (
        note_noted replies i (stamp pair) long ih,
        note_sets replies i (stamp pair) long ih,
        note_acks replies i (stamp pair) long ih,
      ))

  ack_shown : view client (put_ack replies i) ≡ with_ack (view client replies) (suc i)
  unfolding with_ack
  ack_shown = rw (ack_noted replies i long ih, ack_sets replies i long ih, ack_acks replies i long ih)

-- ---- a sound state

module _ (client : Client) (replies : List ℕ) (h : is_sound client replies ≡ true) where
  pub sound_long : length replies ≡ replies_length
  sound_long = (of_memory client replies h).long

  pub few_servers_lem : client.n ≤ most_servers
  few_servers_lem =
      (servers_in_range client.n client.f (client_facts client (of_client client replies h)).range).1

  pub sound_number : client.number < 2 ^ client_bits
  sound_number = client_number client (of_client client replies h)

  pub padded_at : (i : ℕ) → i < most_servers → Padded replies i
  padded_at = padded client.n (is_reading client.phase) (stores client.phase) replies
      (of_memory client replies h)

-- what server k changes
module _ (client : Client) (replies : List ℕ) (k : ℕ) (h : is_sound client replies ≡ true) (low : 1 ≤ k)
    (high : k ≤ client.n) where
  pub place : k - 1 < most_servers
  place = omega (arith, few_servers_lem client replies h)

  pub at_most : k ≤ most_servers
  at_most = omega (arith, place)

  number : suc (k - 1) ≡ k
  number = omega arith

  inside : k - 1 < client.n
  inside = omega arith

  pub pair_view : (pair : Pair) → view client (paired replies (k - 1) pair) ≡ with_pair
      (view client replies) k pair
  pair_view pair =
      pair_shown client replies (k - 1) (sound_long client replies h) place pair
      ∙ ap (λ (j : ℕ). with_pair (view client replies) j pair) number

  pub info_view : (pair : Pair) → view client (informed replies (k - 1) pair) ≡ with_info
      (view client replies) k pair
  info_view pair =
      info_shown client replies (k - 1) (sound_long client replies h) place pair
      ∙ ap (λ (j : ℕ). with_info (view client replies) j pair) number

  pub ack_view : view client (put_ack replies (k - 1)) ≡ with_ack (view client replies) k
  ack_view = ack_shown client replies (k - 1) (sound_long client replies h) place
      ∙ ap (with_ack (view client replies)) number

  pub pair_sound : is_reading client.phase ≡ true → (pair : Pair)
      → is_sound client (paired replies (k - 1) pair) ≡ true
  pair_sound reading pair =
      of_both client (paired replies (k - 1) pair) (of_client client replies h)
      (rw reading (set_sound client.n replies (k - 1) inside place (stores client.phase) pair
      (rw reading at (of_memory client replies h))))

  pub note_sound : is_reading client.phase ≡ true → (noted : ℕ) → noted < 2 ^ stamp_bits
      → is_sound client (put_note replies (k - 1) noted) ≡ true
  note_sound reading noted fits =
      of_both client (put_note replies (k - 1) noted) (of_client client replies h)
      (rw reading (soundness.note_sound client.n replies (k - 1) inside place
      (stores client.phase) noted fits
      (rw reading at (of_memory client replies h))))

  pub ack_sound : stores client.phase ≡ true → is_sound client (put_ack replies (k - 1)) ≡ true
  ack_sound storing =
      of_both client (put_ack replies (k - 1)) (of_client client replies h)
      (rw storing (soundness.ack_sound client.n replies (k - 1) inside place
      (is_reading client.phase)
      (rw storing at (of_memory client replies h))))

pub info_sound : (client : Client) (replies : List ℕ) (k : ℕ) → is_sound client replies ≡ true → 1 ≤ k
    → k ≤ client.n
    → is_reading client.phase ≡ true → (pair : Pair) → pair.0 < 2 ^ pair_bits
    → is_sound client (informed replies (k - 1) pair) ≡ true
info_sound client replies k h low high reading pair fits =
    pair_sound client (put_note replies (k - 1) (stamp pair)) k
    (note_sound client replies k h low high reading (stamp pair) (stamp_fits pair fits)) low high reading pair

pub empty_keeps : (client : Client) → is_sound_client client ≡ true
    → is_sound client (replicate replies_length 0) ≡ true
empty_keeps client h =
    of_both client (replicate replies_length 0) h (empty_sound client.n (is_reading client.phase)
    (stores client.phase))
