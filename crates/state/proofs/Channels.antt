-- The slots of the channels are two tables of messages, one up and one down: what an operation does at the
-- index of a channel it does to one entry of a table.
--
-- Channel c is the entry that c / 13 and c % 13 name, and the index of an entry leads back to it
-- (`place_is`), so the laws of the channels' memory hold entry by entry. All is for clients 1 to 6 and
-- servers 1 to 13.
-- Assumes nothing.
use Rattle.register.proofs.Vocabulary.{update, Message, well_formed, words_of, most_servers, capacity}
use Rattle.register.proofs.Vocabulary.{World}
use Rattle.basics.proofs.Prelude.{◌≡◌, refl, ap, ◌∙◌, true, cond, ◌&&◌, List, [], ◌∷◌, ◌++◌, length, ℕ, suc}
use Rattle.basics.proofs.Prelude.{◌+◌, ◌-◌, ◌*◌, ◌/◌, ◌%◌, ◌≤◌, ◌<◌, arith, eqb, ltb, eqb-true, eqb-false}
use Rattle.basics.proofs.Prelude.{eq-eqb, ne_eqb, ltb-true, ltb-false, lt-ltb, le-ltb}
use Rattle.std.specs.Prelude.{Ok}
use Rattle.basics.proofs.Cases.{by_test}
use Rattle.basics.proofs.UpTo.{back_one, same_place}
use Rattle.message.proofs.RoundTrip.{of_words_of}
use Rattle.channel.specs.Memory.{upward, channels, count_at, put_on, removed, cleared}
use Rattle.channel.specs.Layout.{Fitting, layout}
use Rattle.channel.proofs.Laws.{layout_same, layout_count, layout_put, layout_remove, layout_clear}
use Rattle.channel.proofs.Laws.{layout_oldest}
use Rattle.state.specs.State.{up_index, down_index, table_at, channel_of, store_slots, message_at}
pub use Rattle.state.proofs.Ranges.{Inside}

-- the messages between each client and each server
abbrev pub Table : Type 0
Table = ℕ → ℕ → List Message

-- the slots of two tables
unfoldable pub slots_of : Table → Table → List ℕ
slots_of up down = layout (table_at up down)

pub store_slots_lem : (world : World) → store_slots world ≡ slots_of world.up world.down
unfolding store_slots channel_of slots_of
store_slots_lem world = refl

pub slots_same : (up up' down down' : Table) → ((d k : ℕ) → up d k ≡ up' d k)
    → ((d k : ℕ) → down d k ≡ down' d k) → slots_of up down ≡ slots_of up' down'
slots_same up up' down down' same_up same_down = λ i. slots_of (λ d k. same_up d k i) (λ d k. same_down d k i)

-- one entry changed
unfoldable pub changed : Table → ℕ → ℕ → List Message → Table
changed table d k l other j = cond (eqb k j && eqb d other) l (table other j)

-- no entry is longer than a channel
abbrev pub Short : Table → Type 0
Short table = (d k : ℕ) → length (table d k) ≤ capacity

pub short_changed : (table : Table) (d k : ℕ) (l : List Message) → Short table → length l ≤ capacity
    → Short (changed table d k l)
unfolding changed
short_changed table d k l h g other j = by_test (eqb k j && eqb d other) (λ q. rw q g) (λ q. rw q (h other j))

pub fitting : (up down : Table) → Short up → Short down → Fitting (table_at up down)
fitting up down up_fits down_fits i less = by_test (ltb i upward) (λ e. rw e (up_fits _ _))
    (λ e. rw e (down_fits _ _))

-- ---- indices

place_div : (i j : ℕ) → j < most_servers → (i * most_servers + j) / most_servers ≡ i
place_div i j h = omega arith

place_mod : (i j : ℕ) → j < most_servers → (i * most_servers + j) % most_servers ≡ j
place_mod i j h = omega arith

place_is : (i j c : ℕ) → j < most_servers → eqb (i * most_servers + j) c
    ≡ eqb j (c % most_servers) && eqb i (c / most_servers)
place_is i j c h =
    by_test (eqb (i * most_servers + j) c)
    (λ e. let q : i * most_servers + j ≡ c = eqb-true _ _ e in
    rw (e, ← q, place_div i j h, place_mod i j h, eq-eqb j j refl, eq-eqb i i refl))
    (λ e. let q = eqb-false (i * most_servers + j) c e in
    rw e (by_test (eqb j (c % most_servers))
    (λ a. let p : j ≡ c % most_servers = eqb-true _ _ a in
    let no : i ≡ c / most_servers → ⊥ = λ b. q (omega arith) in
    rw (a, ne_eqb i (c / most_servers) no))
    (λ a. rw a)))

-- a place behind the channels up
behind : (x c : ℕ) → upward ≤ c → eqb (upward + x) c ≡ eqb x (c - upward)
behind x c h =
    by_test (eqb (upward + x) c)
    (λ e. let q : upward + x ≡ c = eqb-true _ _ e in rw (e, eq-eqb x (c - upward) (omega arith)))
    (λ e. let q = eqb-false (upward + x) c e in rw (e, ne_eqb x (c - upward) (λ z. q (omega arith))))

-- ---- the two channels of client d and server k

module _ (up down : Table) (d k : ℕ) (named : Inside d k) where
  abbrev up_at : ℕ
  up_at = up_index (d - 1) (k - 1)

  abbrev down_at : ℕ
  down_at = down_index (d - 1) (k - 1)

  up_less : up_at < upward
  up_less = let l = named.low in let h = named.high in let f = named.first in let t =
      named.last in omega arith

  inside_row : k - 1 < most_servers
  inside_row = let t = named.last in omega arith

  pub up_inside : up_at < channels
  up_inside = omega (arith, up_less)

  pub down_inside : down_at < channels
  down_inside = omega (arith, up_less)

  -- the entry that the place of a channel leads back to
  entry : (table : Table) → table (suc (up_at / most_servers)) (suc (up_at % most_servers)) ≡ table d k
  entry table =
      rw (
        place_div (d - 1) (k - 1) inside_row,
        place_mod (d - 1) (k - 1) inside_row,
        back_one d named.low,
        back_one k named.first,
      )

  pub up_entry : table_at up down up_at ≡ up d k
  up_entry = rw (lt-ltb up_at upward up_less) (entry up)

  pub down_entry : table_at up down down_at ≡ down d k
  down_entry =
      let off : down_at - upward ≡ up_at = omega arith in
      rw (le-ltb down_at upward (omega arith), off) (entry down)

  here : (c : ℕ) → eqb up_at c ≡ eqb k (suc (c % most_servers)) && eqb d (suc (c / most_servers))
  here c =
      rw (same_place k (c % most_servers) named.first, same_place d (c / most_servers) named.low)
      (place_is (d - 1) (k - 1) c inside_row)

  up_changed : (l : List Message) → layout (update (table_at up down) up_at l) ≡ slots_of (changed up d k l) down
  unfolding slots_of changed update
  up_changed l =
      layout_same (update (table_at up down) up_at l) (table_at (changed up d k l) down)
      (λ c less. by_test (ltb c upward) (λ e. rw (e, here c))
      (λ e. rw (e, ne_eqb up_at c (λ z. omega (arith, up_less, ltb-false c upward e)))))

  down_changed : (l : List Message)
      → layout (update (table_at up down) down_at l) ≡ slots_of up (changed down d k l)
  unfolding slots_of changed update
  down_changed l =
      layout_same (update (table_at up down) down_at l) (table_at up (changed down d k l))
      (λ c less. by_test (ltb c upward)
      (λ e. rw (e, ne_eqb down_at c (λ z. omega (arith, ltb-true c upward e))))
      (λ e. rw (e, behind up_at c (ltb-false c upward e), here (c - upward))))

  module _ (up_fits : Short up) (down_fits : Short down) where
    fits : Fitting (table_at up down)
    fits = fitting up down up_fits down_fits

    -- how many messages wait
    pub up_count : count_at (slots_of up down) up_at ≡ length (up d k)
    unfolding slots_of
    up_count = layout_count (table_at up down) fits up_at up_inside ∙ ap length up_entry

    pub down_count : count_at (slots_of up down) down_at ≡ length (down d k)
    unfolding slots_of
    down_count = layout_count (table_at up down) fits down_at down_inside ∙ ap length down_entry

    -- a message put behind them
    pub up_put : (message : Message) → length (up d k) < capacity
        → put_on (slots_of up down) up_at (words_of message)
        ≡ slots_of (changed up d k (up d k ++ message ∷ [])) down
    unfolding slots_of
    up_put message room =
        layout_put (table_at up down) fits up_at up_inside message (rw up_entry room)
        ∙ rw up_entry (up_changed (up d k ++ message ∷ []))

    pub down_put : (message : Message) → length (down d k) < capacity
        → put_on (slots_of up down) down_at (words_of message)
        ≡ slots_of up (changed down d k (down d k ++ message ∷ []))
    unfolding slots_of
    down_put message room =
        layout_put (table_at up down) fits down_at down_inside message (rw down_entry room)
        ∙ rw down_entry (down_changed (down d k ++ message ∷ []))

    -- all of them gone
    pub down_clear : cleared (slots_of up down) down_at ≡ slots_of up (changed down d k [])
    unfolding slots_of
    down_clear = layout_clear (table_at up down) fits down_at down_inside ∙ down_changed []

    module _ (message : Message) (rest : List Message) where
      -- the oldest taken
      pub up_remove : up d k ≡ message ∷ rest → removed (slots_of up down) up_at
          ≡ slots_of (changed up d k rest) down
      unfolding slots_of
      up_remove e = layout_remove (table_at up down) fits up_at up_inside message rest (up_entry ∙ e)
          ∙ up_changed rest

      pub down_remove : down d k ≡ message ∷ rest
          → removed (slots_of up down) down_at ≡ slots_of up (changed down d k rest)
      unfolding slots_of
      down_remove e =
          layout_remove (table_at up down) fits down_at down_inside message rest (down_entry ∙ e)
          ∙ down_changed rest

      -- the oldest read
      oldest_at : (c : ℕ) → c < channels → table_at up down c ≡ message ∷ rest → well_formed message ≡ true
          → message_at (slots_of up down) c ≡ Ok message
      unfolding slots_of
      oldest_at c less e well = rw (layout_oldest (table_at up down) fits c less message rest e)
          (of_words_of message well)

      pub up_oldest : up d k ≡ message ∷ rest → well_formed message ≡ true → message_at (slots_of up down) up_at
          ≡ Ok message
      up_oldest e = oldest_at up_at up_inside (up_entry ∙ e)

      pub down_oldest : down d k ≡ message ∷ rest → well_formed message ≡ true
          → message_at (slots_of up down) down_at ≡ Ok message
      down_oldest e = oldest_at down_at down_inside (down_entry ∙ e)
