-- Messages of a client on its channels: the slots of the tables in which every channel to an honest server
-- has them last.
--
-- One message goes to server after server (`broadcast_law`), and messages go one after the other (`send_up_lem`),
-- in room that the ladders have tested: on a full channel nothing would be put.
-- Assumes nothing.
use Rattle.basics.proofs.Prelude.{◌≡◌, refl, sym, ap, ◌∙◌, Bool, true, false, cond, ◌&&◌, ◌||◌, List, [], ◌∷◌}
use Rattle.basics.proofs.Prelude.{◌++◌, append-nil, length, length-append, ℕ, zero, suc, ◌+◌, ◌-◌, ◌≤◌, ◌<◌}
use Rattle.basics.proofs.Prelude.{arith, eqb, eqb-true, eq-eqb}
use lib.Seq.{append_snoc}
use Rattle.register.proofs.Vocabulary.{contains, is_up_to, Message, words_of, capacity, most_clients}
use Rattle.register.proofs.Vocabulary.{most_servers}
use Rattle.basics.proofs.Cases.{by_test, both}
use Rattle.basics.proofs.UpTo.{in_range_lem, of_range, range_none, range_more}
use Rattle.register.proofs.Dropping.{nothing_put}
use Rattle.channel.specs.Memory.{put_on}
use Rattle.state.specs.declared.Settings.{Settings}
use Rattle.state.specs.State.{up_index}
use Rattle.state.proofs.Channels.{Table, slots_of, slots_same, changed, Short, up_put}
use Rattle.steps.specs.InMemory.{broadcast, send_up}

-- messages behind those from client d to the honest of the servers 1 to n
unfoldable pub sent_up : (ℕ → Bool) → ℕ → ℕ → List Message → Table → Table
sent_up faulty d n messages up other k = up other k ++ cond (faulty k) []
    (cond (eqb d other && is_up_to n k) messages [])

-- ---- one channel, by cases on the tests: `own`, it is the client's; `next`, it goes to the next server;
-- `earlier`, to one before; `drops`, it drops

added : (own next earlier drops : Bool) (l held : List Message) (message : Message)
    → (own ≡ true → next ≡ true → (drops ≡ false) × (held ≡ l))
    → cond (next && own) (held ++ message ∷ []) (l ++ cond drops [] (cond (own && earlier) (message ∷ []) []))
    ≡ l ++ cond drops [] (cond (own && (next || earlier)) (message ∷ []) [])
added own false earlier drops l held message h = refl
added false true earlier drops l held message h = refl
added true true earlier drops l held message h = let q = h refl refl in rw (q.0, q.1)

skipped : (own next earlier drops : Bool) (l : List Message) (message : Message)
    → (next ≡ true → drops ≡ true) → l ++ cond drops [] (cond (own && earlier) (message ∷ []) [])
    ≡ l ++ cond drops [] (cond (own && (next || earlier)) (message ∷ []) [])
skipped own false earlier drops l message h = refl
skipped own true earlier drops l message h = rw (h refl)

joined : (drops earlier : Bool) (l : List Message) (message : Message) (messages : List Message)
    → (l ++ cond drops [] (cond earlier (message ∷ []) [])) ++ cond drops [] (cond earlier messages [])
    ≡ l ++ cond drops [] (cond earlier (message ∷ messages) [])
joined true earlier l message messages = append-nil (l ++ [])
joined false true l message messages = append_snoc l message messages
joined false false l message messages = append-nil (l ++ [])

pub none_sent : (drops earlier : Bool) (l : List Message) → l ≡ l ++ cond drops [] (cond earlier [] [])
none_sent drops true l = sym (nothing_put drops l)
none_sent drops false l = sym (nothing_put drops l)

-- room for more messages on the channels of client d to the honest of the servers 1 to n
abbrev pub Room : ℕ → ℕ → ℕ → ℕ → Table → Type 0
Room faulty d n more up = (k : ℕ) → is_up_to n k ≡ true → contains faulty k ≡ false
    → length (up d k) + more ≤ capacity

pub short_sent : (faulty d n : ℕ) (messages : List Message) (up : Table) → Short up
    → Room faulty d n (length messages) up → Short (sent_up (contains faulty) d n messages up)
unfolding sent_up
short_sent faulty d n messages up short room other k =
    by_test (contains faulty k) (λ f. rw (f, append-nil (up other k)) (short other k))
    (λ f. by_test (eqb d other && is_up_to n k) (λ c. let b = both (eqb d other) (is_up_to n k) c in
    let r : length (up other k) + length messages ≤ capacity = rw (eqb-true d other b.0) at
    (room k b.1 f) in
    rw (f, c, length-append (up other k) messages) r)
    (λ c. rw (f, c, append-nil (up other k)) (short other k)))

none_there : (drops own earlier : Bool) (l : List Message) (message : Message) → earlier ≡ false
    → l ≡ l ++ cond drops [] (cond (own && earlier) (message ∷ []) [])
none_there drops true earlier l message h = rw h (sym (nothing_put drops l))
none_there drops false earlier l message h = sym (nothing_put drops l)

module _ (faulty d : ℕ) (low : 1 ≤ d) (high : d ≤ most_clients) (down : Table) (down_fits : Short down) where
  module _ (up : Table) (up_fits : Short up) (message : Message) where
    -- one message on the channels to the honest of the servers 1 to j
    to : ℕ → Table
    to j = sent_up (contains faulty) d j (message ∷ []) up

    -- and to the next server
    module _ (j : ℕ) (top : suc j ≤ most_servers) (room : Room faulty d (suc j) 1 up) where
      here : is_up_to (suc j) (suc j) ≡ true
      here = of_range (suc j) (suc j) (omega arith) (omega arith)

      not_yet : is_up_to j (suc j) ≡ false
      not_yet =
          by_test (is_up_to j (suc j))
          (λ h. let r = in_range_lem j (suc j) h in let z : ⊥ = omega arith in absurd z)
          (λ h. h)

      same : to j d (suc j) ≡ up d (suc j)
      unfolding to sent_up
      same = sym (none_there (contains faulty (suc j)) (eqb d d) (is_up_to j (suc j))
          (up d (suc j)) message not_yet)

      skip : contains faulty (suc j) ≡ true → slots_of (to j) down ≡ slots_of (to (suc j)) down
      unfolding to sent_up
      skip f =
          slots_same (to j) (to (suc j)) down down (λ other k. rw (range_more j k)
          (skipped (eqb d other) (eqb (suc j) k) (is_up_to j k) (contains faulty k) (up other k) message
          (λ b. rw (← (eqb-true (suc j) k b)) f)))
          (λ other k. refl)

      short_so_far : Short (to j)
      unfolding to
      short_so_far =
          short_sent faulty d j (message ∷ []) up up_fits
          (λ k h f. let r = in_range_lem j k h in room k (of_range (suc j) k r.0 (omega arith)) f)

      put : contains faulty (suc j) ≡ false
          → put_on (slots_of (to j) down) (up_index (d - 1) j) (words_of message) ≡ slots_of (to (suc j)) down
      unfolding to sent_up changed
      put f =
          let back : suc j - 1 ≡ j = omega arith in
          let less : length (to j d (suc j)) < capacity = rw same
          (let r = room (suc j) here f in omega arith) in
          ap (λ (i : ℕ). put_on (slots_of (to j) down) (up_index (d - 1) i) (words_of message)) (sym back)
          ∙ up_put (to j) down d (suc j) (record { low = low; high = high; first = omega arith; last = top })
          short_so_far down_fits message less
          ∙ slots_same (changed (to j) d (suc j) (to j d (suc j) ++ message ∷ [])) (to (suc j)) down down
          (λ other k. rw (range_more j k)
          (added (eqb d other) (eqb (suc j) k) (is_up_to j k) (contains faulty k) (up other k)
          (to j d (suc j)) message (λ a b. let p = eqb-true d other a in let q = eqb-true (suc j) k b in
          (rw (← q) f, rw (← p, ← q) same))))
          (λ other k. refl)

    pub broadcast_law : (j : ℕ) → j ≤ most_servers → Room faulty d j 1 up
        → broadcast faulty (slots_of up down) (d - 1) message j
        ≡ slots_of (sent_up (contains faulty) d j (message ∷ []) up) down
    unfolding broadcast to sent_up
    broadcast_law zero top room =
        slots_same up (to zero) down down
        (λ e k. none_there (contains faulty k) (eqb d e) (is_up_to 0 k) (up e k) message (range_none k))
        (λ e k. refl)
    broadcast_law (suc j) top room =
        let earlier : broadcast faulty (slots_of up down) (d - 1) message j ≡ slots_of (to j) down =
        broadcast_law j (omega arith)
        (λ k h f. let r = in_range_lem j k h in room k (of_range (suc j) k r.0 (omega arith)) f) in
        by_test (contains faulty (suc j)) (λ f. rw (f, earlier) (skip j top room f))
        (λ f. rw (f, earlier) (put j top room f))

-- messages one after the other
module _ (settings : Settings) (d : ℕ) (low : 1 ≤ d) (high : d ≤ most_clients)
    (few : settings.n ≤ most_servers) (down : Table) (down_fits : Short down) where
  pub send_up_lem : (messages : List Message) (up : Table) → Short up
      → Room settings.faulty d settings.n (length messages) up
      → send_up settings (slots_of up down) (d - 1) messages
      ≡ slots_of (sent_up (contains settings.faulty) d settings.n messages up) down
  unfolding send_up sent_up
  send_up_lem [] up up_fits room =
      slots_same up (sent_up (contains settings.faulty) d settings.n [] up) down down
      (λ e k. none_sent (contains settings.faulty k) (eqb d e && is_up_to settings.n k) (up e k))
      (λ e k. refl)
  send_up_lem (message ∷ messages) up up_fits room =
      let up' : Table = sent_up (contains settings.faulty) d settings.n (message ∷ []) up in
      let one : Room settings.faulty d settings.n 1 up = λ k h f.
      (let r = room k h f in omega arith) in
      let rest : Room settings.faulty d settings.n (length messages) up' =
      λ k h f. (let r = room k h f in
      rw (f, eq-eqb d d refl, h, length-append (up d k) (message ∷ [])) (omega arith)) in
      rw (broadcast_law settings.faulty d low high down down_fits up up_fits message
      settings.n few one) (send_up_lem messages up'
      (short_sent settings.faulty d settings.n (message ∷ []) up up_fits one) rest
      ∙ slots_same (sent_up (contains settings.faulty) d settings.n messages up')
      (sent_up (contains settings.faulty) d settings.n (message ∷ messages) up) down down
      (λ e k. joined (contains settings.faulty k) (eqb d e && is_up_to settings.n k)
      (up e k) message messages) (λ e k. refl))
