-- Where no channel holds more than its slots, there is room where nothing is sent, and for one message if its
-- own channel has room.
--
-- So the channels of a client that does not take a message need not be looked at, since it sends nothing; and
-- of those of a server that sends an INFO only the sender's.
-- In order: one more test of a loop over channels; sums joined by OR; a channel that nothing is put on; up;
-- down.
-- Assumes nothing.
use Rattle.basics.proofs.Prelude.{◌≡◌, refl, sym, ap, ◌∙◌, Bool, true, false, ◌&&◌, ◌||◌, List, length, ℕ}
use Rattle.basics.proofs.Prelude.{suc, ◌+◌, ◌-◌, ◌*◌, ◌≤◌, ◌<◌, add-one, arith, eqb, leb, ltb, eqb-true}
use Rattle.basics.proofs.Prelude.{eq-eqb, leb-true, leb-false, le-leb, ltb-true, ltb-false, lt-ltb, le-ltb}
use lib.Bits.{bit_or, bit_and, or_lt, or_add_and, and_le_l, and_le_r}
use mir.Val.{bool_byte}
use Rattle.register.proofs.Vocabulary.{all_below, contains, Pair, ReadNumber, sent_to, capacity}
use Rattle.register.proofs.Vocabulary.{most_clients, most_servers}
use Rattle.basics.proofs.Cases.{by_test}
use Rattle.basics.proofs.Tests.{below_of, below_fails}
use Rattle.channel.specs.Memory.{count_at}
use Rattle.channel.specs.Sound.{CountsFit}
use Rattle.server.specs.declared.Sends.TheVariants as reply
use Rattle.server.specs.Serving.{sent_by}
use Rattle.state.specs.declared.Settings.{Settings}
use Rattle.state.specs.State.{up_index, down_index}
use Rattle.steps.specs.InMemory.{room_up, room_down}
use Rattle.steps.proofs.ReplyLengths.{none_length, info_length}

-- ---- one more test of a loop over channels

pub tested : (p : ℕ → Bool) (j : ℕ) (a b : Bool) → a ≡ all_below p j → b ≡ p j → a && b ≡ all_below p (j + 1)
unfolding all_below
tested p j a b e f = rw (add-one j, e, f)

-- ---- sums joined by OR

-- the code's `OVER` and `UNDER`: a power of 2 above the capacity of a channel, and what is added so that a
-- sum over the capacity reaches it
abbrev pub limit : ℕ
limit = 2 * capacity

abbrev pub lift : ℕ
lift = limit - 1 - capacity

-- numbers joined are below the limit where both are: neither is above the join
or_small : (a b : ℕ) → ltb (bit_or a b) limit ≡ ltb a limit && ltb b limit
or_small a b =
    let sum : bit_or a b + bit_and a b ≡ a + b = or_add_and a b in
    let left : bit_and a b ≤ a = and_le_l a b in
    let right : bit_and a b ≤ b = and_le_r a b in
    by_test (ltb a limit) (λ p. by_test (ltb b limit)
    (λ q. rw (p, q) (lt-ltb _ limit (or_lt 4 a b (ltb-true a limit p) (ltb-true b limit q))))
    (λ q. rw (p, q) (le-ltb (bit_or a b) limit (let h = ltb-false b limit q in omega arith))))
    (λ p. rw p (le-ltb (bit_or a b) limit (let h = ltb-false a limit p in omega arith)))

-- a sum is at most the capacity where it is below the limit once lifted
lifted : (n : ℕ) → ltb (n + lift) limit ≡ leb n capacity
lifted n =
    by_test (leb n capacity) (λ e. lt-ltb (n + lift) limit (let h = leb-true n capacity e in omega arith)
    ∙ sym e) (λ e. le-ltb (n + lift) limit (let h = leb-false n capacity e in omega arith) ∙ sym e)

pub joined : (p : ℕ → Bool) (j over n : ℕ) → ltb over limit ≡ all_below p j → leb n capacity ≡ p j
    → ltb (bit_or over (n + lift)) limit ≡ all_below p (j + 1)
joined p j over n e f = or_small over (n + lift) ∙ tested p j _ _ e (lifted n ∙ f)

-- ---- a channel that nothing is put on

-- it drops or not
drops_or_fits : (drops : Bool) (n more : ℕ) → n ≤ capacity → more ≡ 0 → drops || leb (n + more) capacity
    ≡ true
drops_or_fits true n more h e = refl
drops_or_fits false n more h e = le-leb (n + more) capacity (omega arith)

-- ---- up

pub room_silent : (settings : Settings) (slots : List ℕ) (i : ℕ) → settings.n ≤ most_servers → CountsFit slots
    → i < most_clients → room_up settings slots i 0 ≡ true
unfolding room_up
room_silent settings slots i few fit h =
    below_of _ settings.n
    (λ j less. drops_or_fits (contains settings.faulty (suc j)) (count_at slots (up_index i j)) 0
    (fit (up_index i j) (omega arith)) refl)

-- ---- down

module _ (settings : Settings) (stopped : ℕ) (slots : List ℕ) (d j : ℕ) (server : j < most_servers)
    (few : settings.clients ≤ most_clients) (fit : CountsFit slots) where
  -- no reply
  pub room_none : room_down settings stopped slots j (sent_by d reply.Nothing) ≡ true
  unfolding room_down
  room_none =
      below_of _ settings.clients
      (λ to less. drops_or_fits (contains stopped (suc to)) (count_at slots (down_index to j)) _
      (fit (down_index to j) (omega arith)) (sym (none_length d to)))

  module _ (number : ReadNumber) (pair : Pair) where
    -- room on the channel to the client at place `to`, for more messages; and for those of an INFO to
    -- client d
    abbrev room_at : ℕ → ℕ → Bool
    room_at to more = contains stopped (suc to) || leb (count_at slots (down_index to j) + more) capacity

    abbrev sent_at : ℕ → ℕ
    sent_at to = length (sent_to (suc to) (sent_by d (reply.Info number pair)))

    -- which is asked for on that client's channel only
    one_asked : (i : ℕ) → suc i ≡ d → i < settings.clients → room_down settings stopped slots j
        (sent_by d (reply.Info number pair)) ≡ room_at i 1
    unfolding room_down
    one_asked i is there =
        let own : room_at i (sent_at i) ≡ room_at i 1 =
        ap (room_at i) (sym (info_length d i number pair (omega arith))
        ∙ ap bool_byte (eq-eqb d (suc i) (sym is))) in
        by_test (room_at i 1)
        (λ yes. below_of _ settings.clients (λ to less. by_test (eqb d (suc to))
        (λ here. let same : i ≡ to = let q = eqb-true d (suc to) here in omega arith in
        ap (λ (place : ℕ). room_at place (sent_at place)) (sym same) ∙ own ∙ yes)
        (λ no. drops_or_fits (contains stopped (suc to)) (count_at slots (down_index to j)) _
        (fit (down_index to j) (omega arith)) (sym (info_length d to number pair (omega arith))
        ∙ ap bool_byte no)))
        ∙ sym yes)
        (λ no. below_fails _ settings.clients i there (own ∙ no) ∙ sym no)

    pub room_info : 1 ≤ d → d ≤ settings.clients → room_down settings stopped slots j
        (sent_by d (reply.Info number pair))
        ≡ (contains stopped d || leb (count_at slots (down_index (d - 1) j) + 1) capacity)
    room_info low high =
        let same : suc (d - 1) ≡ d = omega arith in
        one_asked (d - 1) same (omega arith)
        ∙ ap (λ (n : ℕ). contains stopped n || leb (count_at slots (down_index (d - 1) j) + 1) capacity) same
