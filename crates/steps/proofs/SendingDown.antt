-- Messages of a server, each to its client: the slots of the tables in which every working client's channel
-- has its messages last.
--
-- They go one after the other (`send_down_lem`), in room that the ladders have tested.
-- Assumes nothing.
use Rattle.basics.proofs.Prelude.{◌≡◌, refl, ◌∙◌, Bool, true, false, cond, ◌&&◌, inl, inr, List, [], ◌∷◌}
use Rattle.basics.proofs.Prelude.{◌++◌, length, length-append, ℕ, suc, ◌+◌, ◌-◌, ◌≤◌, arith, eqb, eqb-true}
use Rattle.basics.proofs.Prelude.{eq-eqb}
use lib.Seq.{append_snoc}
use Rattle.register.proofs.Vocabulary.{Member, contains, Message, Sent, sent_to, capacity, most_clients}
use Rattle.register.proofs.Vocabulary.{most_servers}
use Rattle.basics.proofs.Cases.{by_test}
use Rattle.state.proofs.Channels.{Table, slots_of, slots_same, changed, Short, short_changed, Inside}
use Rattle.state.proofs.Channels.{down_put}
use Rattle.steps.specs.InMemory.{send_one, send_down}
use Rattle.steps.proofs.SendingUp.{none_sent}

-- what is sent of server k, behind the messages to each client that works
unfoldable pub sent_down : (ℕ → Bool) → ℕ → List Sent → Table → Table
sent_down stopped k xs down d j = down d j ++ cond (stopped d) [] (cond (eqb k j) (sent_to d xs) [])

-- ---- one channel, by cases on the tests: `own`, it is the message's client; `here`, it is the server's;
-- `gone`, the client has stopped

skipped : (own here gone : Bool) (l : List Message) (message : Message) (rest : List Message)
    → (own ≡ true → gone ≡ true) → l ++ cond gone [] (cond here rest [])
    ≡ l ++ cond gone [] (cond here (cond own (message ∷ rest) rest) [])
skipped false here gone l message rest h = refl
skipped true here gone l message rest h = rw (h refl)

added : (own here gone : Bool) (l held : List Message) (message : Message) (rest : List Message)
    → (own ≡ true → gone ≡ false) → (own ≡ true → here ≡ true → held ≡ l)
    → cond (here && own) (held ++ message ∷ []) l ++ cond gone [] (cond here rest [])
    ≡ l ++ cond gone [] (cond here (cond own (message ∷ rest) rest) [])
added own false gone l held message rest h g = refl
added false true gone l held message rest h g = refl
added true true gone l held message rest h g = rw (h refl, g refl refl) (append_snoc l message rest)

module _ (stopped k : ℕ) (first : 1 ≤ k) (last : k ≤ most_servers) (up : Table) (up_fits : Short up) where
  -- messages go to clients 1 to 6
  abbrev pub Addressed : List Sent → Type 0
  Addressed xs = (x : Sent) → Member x xs → (1 ≤ x.to) × (x.to ≤ most_clients)

  -- room for them on the channels to those that work
  abbrev pub Room : List Sent → Table → Type 0
  Room xs down = (other : ℕ) → contains stopped other ≡ false
      → length (down other k) + length (sent_to other xs) ≤ capacity

  pub send_down_lem : (xs : List Sent) (down : Table) → Short down → Addressed xs → Room xs down
      → send_down stopped (slots_of up down) (k - 1) xs ≡ slots_of up (sent_down (contains stopped) k xs down)
  unfolding send_down send_one sent_down sent_to changed
  send_down_lem [] down down_fits to room =
      slots_same up up down (sent_down (contains stopped) k [] down) (λ other j. refl)
      (λ other j. none_sent (contains stopped other) (eqb k j) (down other j))
  send_down_lem (x ∷ xs) down down_fits to room =
      let d = x.to in
      let message = x.message in
      let to' : Addressed xs = λ y h. to y (inr h) in
      by_test (contains stopped d) (λ yes. rw yes (send_down_lem xs down down_fits to'
      (λ other works. let r = room other works in by_test (eqb d other)
      (λ a. let r' = rw a at r in omega arith) (λ a. rw a at r))
      ∙ slots_same up up (sent_down (contains stopped) k xs down) (sent_down (contains stopped) k (x ∷ xs) down)
      (λ other j. refl)
      (λ other j. skipped (eqb d other) (eqb k j) (contains stopped other) (down other j) message
      (sent_to other xs) (λ a. rw (← (eqb-true d other a)) yes))))
      (λ no. let r : length (down d k) + suc (length (sent_to d xs)) ≤ capacity = rw (eq-eqb d d refl) at
      (room d no) in
      let more : length (down d k ++ message ∷ []) ≤ capacity = rw (length-append (down d k) (message ∷ []))
      (omega arith) in
      let down' : Table = changed down d k (down d k ++ message ∷ []) in
      let own = to x (inl refl) in
      let inside : Inside d k = record { low = own.0; high = own.1; first = first; last = last } in
      let put = down_put up down d k inside up_fits down_fits message (omega arith) in
      let rest : Room xs down' =
      λ other works. (let r' = room other works in
      by_test (eqb d other) (λ a. let q : d ≡ other = eqb-true d other a in
      let r'' : length (down other k) + suc (length (sent_to other xs)) ≤ capacity = rw a at r' in
      rw (eq-eqb k k refl, a, q, length-append (down other k) (message ∷ [])) (omega arith))
      (λ a. rw (eq-eqb k k refl, a) (rw a at r'))) in
      rw (no, put)
      (send_down_lem xs down' (short_changed down d k (down d k ++ message ∷ []) down_fits more) to' rest
      ∙ slots_same up up (sent_down (contains stopped) k xs down')
      (sent_down (contains stopped) k (x ∷ xs) down) (λ other j. refl)
      (λ other j. added (eqb d other) (eqb k j) (contains stopped other) (down other j) (down d k) message
      (sent_to other xs)
      (λ a. rw (← (eqb-true d other a)) no) (λ a b. rw (eqb-true d other a, eqb-true k j b)))))
