-- Messages put on channels: what each turn of a loop over channels, and each kind of reply, adds.
--
-- In order: a message's words put; one client's channel; first some messages, then others; one more server of
-- a broadcast; one more reader of a forward; a pair forwarded and acknowledged.
-- Assumes nothing.
use Rattle.register.proofs.Vocabulary.{contains, Message, Fwd, WriteAck, Pair, Words, WriteCounter, words_of}
use Rattle.register.proofs.Vocabulary.{counter, Sent, sent, forwards, most_clients}
use Rattle.basics.proofs.Prelude.{◌≡◌, refl, sym, ap, ◌∙◌, true, false, List, [], ◌∷◌, ◌++◌, append-nil, ℕ}
use Rattle.basics.proofs.Prelude.{suc, ◌+◌, ◌-◌, add-one}
use Rattle.channel.specs.Memory.{put_on}
use Rattle.server.specs.declared.Sends.TheVariants as sends
use Rattle.server.specs.Serving.{sent_by}
use Rattle.state.specs.State.{up_index, down_index}
use Rattle.steps.specs.InMemory.{broadcast, send_one, send_down}

-- words put on a channel that are a message's, on a channel that is known
pub put_message : (slots slots' : List ℕ) (n n' : ℕ) (words : Words) (message : Message) → n ≡ n'
    → words ≡ words_of message → slots' ≡ put_on slots n words → slots' ≡ put_on slots n' (words_of message)
put_message slots slots' n n' words message e f h = cc

-- the channel to a client that works, and to one that has stopped
pub send_working : (stopped : ℕ) (slots : List ℕ) (d j : ℕ) (message : Message) → contains stopped d ≡ false
    → send_one stopped slots j (sent d message) ≡ put_on slots (down_index (d - 1) j) (words_of message)
unfolding send_one
send_working stopped slots d j message e = rw e refl

pub send_stopped : (stopped : ℕ) (slots : List ℕ) (d j : ℕ) (message : Message) → contains stopped d ≡ true
    → send_one stopped slots j (sent d message) ≡ slots
unfolding send_one
send_stopped stopped slots d j message e = rw e refl

pub send_both : (stopped : ℕ) (slots : List ℕ) (j : ℕ) (xs ys : List Sent)
    → send_down stopped slots j (xs ++ ys) ≡ send_down stopped (send_down stopped slots j xs) j ys
unfolding send_down
send_both stopped slots j [] ys = refl
send_both stopped slots j (x ∷ xs) ys = send_both stopped (send_one stopped slots j x) j xs ys

-- one more server of a broadcast, honest or faulty
module _ (faulty : ℕ) (slots₀ slots : List ℕ) (i : ℕ) (message : Message) (j : ℕ)
    (so_far : slots ≡ broadcast faulty slots₀ i message j) where
  pub broadcast_honest : (slots' : List ℕ) → contains faulty (suc j) ≡ false
      → slots' ≡ put_on slots (up_index i j) (words_of message)
      → slots' ≡ broadcast faulty slots₀ i message (j + 1)
  unfolding broadcast
  broadcast_honest slots' e h = rw (add-one j, e)
      (h ∙ ap (λ (x : List ℕ). put_on x (up_index i j) (words_of message)) so_far)

  pub broadcast_faulty : contains faulty (suc j) ≡ true → slots ≡ broadcast faulty slots₀ i message (j + 1)
  unfolding broadcast
  broadcast_faulty e = rw (add-one j, e) so_far

-- one more client of a forward, a reader or not
module _ (stopped : ℕ) (slots₀ slots : List ℕ) (j set : ℕ) (pair : Pair) (i : ℕ)
    (so_far : slots ≡ send_down stopped slots₀ j (forwards (contains set) pair i)) where
  pub forward_reader : (slots' : List ℕ) → contains set (suc i) ≡ true
      → slots' ≡ send_one stopped slots j (sent (suc i) (Fwd pair))
      → slots' ≡ send_down stopped slots₀ j (forwards (contains set) pair (i + 1))
  unfolding forwards send_down
  forward_reader slots' e h =
      let forwarded : Sent = sent (suc i) (Fwd pair) in
      rw (add-one i, e)
      (h ∙ ap (λ (y : List ℕ). send_one stopped y j forwarded) so_far
      ∙ sym (send_both stopped slots₀ j (forwards (contains set) pair i) (forwarded ∷ [])))

  pub forward_other : contains set (suc i) ≡ false
      → slots ≡ send_down stopped slots₀ j (forwards (contains set) pair (i + 1))
  unfolding forwards
  forward_other e = rw (add-one i, e, append-nil) so_far

-- a pair forwarded and acknowledged to client d
module _ (stopped : ℕ) (slots : List ℕ) (j d : ℕ) where
  pub reply_forward : (set : ℕ) (pair : Pair) (slots₁ slots₂ : List ℕ) (number : WriteCounter)
      → number ≡ counter pair
      → slots₁ ≡ send_down stopped slots j (forwards (contains set) pair most_clients)
      → slots₂ ≡ send_one stopped slots₁ j (sent d (WriteAck number))
      → slots₂ ≡ send_down stopped slots j (sent_by d (sends.Forward set pair))
  unfolding sent_by send_down
  reply_forward set pair slots₁ slots₂ number e f h =
      h ∙ ap (λ (x : WriteCounter). send_one stopped slots₁ j (sent d (WriteAck x))) e
      ∙ ap (λ (y : List ℕ). send_one stopped y j (sent d (WriteAck (counter pair)))) f
      ∙ sym (send_both stopped slots j (forwards (contains set) pair most_clients)
      (sent d (WriteAck (counter pair)) ∷ []))
