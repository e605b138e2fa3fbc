-- The replies of a client, lent to a step out of its memory.
--
-- They are the last of its numbers, those behind the head (`last_lent`), so the client with them shows what
-- the memory shows and is sound; what the step leaves there is put back behind the head that is stored
-- (`last_put`), and so makes the memory of the model's step (`taken_in_memory`).
-- Assumes nothing.
use Rattle.basics.proofs.Prelude.{◌≡◌, refl, sym, ap, ◌∙◌, Bool, true, List, ◌++◌, length, take, drop}
use Rattle.basics.proofs.Prelude.{length-take-le, ℕ, ◌-◌, ◌≤◌, arith}
use Rattle.std.specs.Prelude.{Ok}
use lib.Seq.{drop_at}
use Rattle.register.proofs.Vocabulary.{Message, Info, Fwd, WriteAck, Pair, ReadNumber, WriteCounter}
use Rattle.register.proofs.Vocabulary.{most_clients, is_reading, is_storing, uses_info}
use Rattle.register.specs.Client as model
use Rattle.replies.specs.Replies.{held, replies_length}
use Rattle.replies.specs.Sound.{are_sound}
use Rattle.client.specs.declared.Client.{Client}
use Rattle.client.specs.declared.Transition.{Transition}
use Rattle.client.specs.State as by_value
use Rattle.client.specs.Memory.{client_length, replies_at, loaded, head_of, stored, view}
use Rattle.client.specs.Sound.{stores, is_sound, are_sound_replies, is_sound_memory}
use Rattle.client.specs.Sends as sends
use Rattle.client.specs.Sends.{After, received_of}
use Rattle.client.specs.Collecting.{received_pair_of}
use Rattle.client.specs.Taking.{is_taken}
use Rattle.client.specs.Outcome as outcome
use Rattle.client.proofs.Memory.{memory_facts, sound_parts}
use Rattle.client.proofs.Taking.{pair_sends}

-- ---- the last of a memory's numbers

abbrev pub last_at : List ℕ → ℕ
last_at memory = length memory - replies_length

module _ (memory : List ℕ) (long : length memory ≡ client_length) where
  last_is : last_at memory ≡ replies_at
  last_is = omega arith

  pub last_lent : (replies : List ℕ) → replies ≡ drop (last_at memory) memory
      → replies ≡ drop replies_at memory
  last_lent replies e = e ∙ ap (λ (at : ℕ). drop at memory) last_is

  -- replies put back behind the head
  last_put : (replies : List ℕ) → drop replies_at (take (last_at memory) memory ++ replies) ≡ replies
  last_put replies =
      drop_at (take (last_at memory) memory) replies replies_at
      (length-take-le (last_at memory) memory (omega arith) ∙ last_is)

-- ---- the length of a sound one

pub memory_long : (n f : ℕ) (memory : List ℕ) → is_sound_memory n f memory ≡ true
    → length memory ≡ client_length
memory_long n f memory h = (memory_facts n f memory h).long

-- ---- a client that was loaded

-- the test of the replies, from what the calls answer
pub replies_by : (client : Client) (d n f : ℕ) (memory : List ℕ) (reading storing b : Bool)
    → client ≡ loaded d n f memory → reading ≡ is_reading client.phase
    → storing ≡ stores client.phase → (replies : List ℕ) → replies ≡ drop replies_at memory
    → b ≡ are_sound n reading storing replies → b ≡ are_sound_replies n memory
replies_by client d n f memory reading storing b e er es replies lent told =
    told ∙ rw (er, es, lent)
    (ap (λ (x : Client). are_sound n (is_reading x.phase) (stores x.phase) (drop replies_at memory))
    e)

module _ (client : Client) (memory : List ℕ)
    (e : client ≡ loaded client.number client.n client.f memory) where
  -- with the replies that are lent, it shows what the memory shows
  lent_view : (replies : List ℕ) → replies ≡ drop replies_at memory
      → by_value.view client replies ≡ view memory
  lent_view replies lent =
      ap (by_value.view client) lent ∙ ap (λ (x : Client). held x.phase x.reads (drop replies_at memory)) e

  -- what it tests, it tests of the memory
  module _ (k : ℕ) (message : Message) (b : Bool) where
    pub fwd_taken : (pair : Pair) → message ≡ Fwd pair → b ≡ is_reading client.phase
        → b ≡ is_taken (view memory) k message
    unfolding is_taken
    fwd_taken pair kind told =
        told ∙ ap (λ (y : Client). is_reading y.phase) e ∙ ap (is_taken (view memory) k) (sym kind)

    pub ack_taken : (count : WriteCounter) → message ≡ WriteAck count → b ≡ is_storing client.phase count
        → b ≡ is_taken (view memory) k message
    unfolding is_taken
    ack_taken count kind told =
        told ∙ ap (λ (y : Client). is_storing y.phase count) e ∙ ap (is_taken (view memory) k) (sym kind)

    pub info_taken : (tag : ReadNumber) (pair : Pair) → message ≡ Info tag pair
        → (replies : List ℕ) → replies ≡ drop replies_at memory
        → b ≡ uses_info (by_value.view client replies) k tag → b ≡ is_taken (view memory) k message
    unfolding is_taken
    info_taken tag pair kind replies lent told =
        told ∙ ap (λ (y : model.Client). uses_info y k tag) (lent_view replies lent)
        ∙ ap (is_taken (view memory) k) (sym kind)

  module _ (h : is_sound_memory client.n client.f memory ≡ true) (low : 1 ≤ client.number)
      (high : client.number ≤ most_clients) where
    -- it is sound with them
    pub lent_sound : (replies : List ℕ) → replies ≡ drop replies_at memory → is_sound client replies ≡ true
    lent_sound replies lent =
        ap (is_sound client) lent ∙ ap (λ (x : Client). is_sound x (drop replies_at memory)) e
        ∙ sound_parts client.number client.n client.f memory low high h

  -- a step on them is one on the memory
  abbrev received_by : (k : ℕ) (message : Message) → model.Client → After
  received_by k message y = sends.stored client (model.client_takes client.n client.f
      client.number y k message)

  pub taken_in_memory : is_sound_memory client.n client.f memory ≡ true
      → (k : ℕ) (message : Message) (transition : Transition) (lent replies left : List ℕ)
      → lent ≡ drop replies_at memory
      → sends.after transition replies ≡ received_of client lent k message
      → left ≡ stored (take (last_at memory) memory ++ replies) transition.client
      → outcome.after (Ok (record { sends = transition.sends; answer = transition.answer })) left
      ≡ outcome.taken_of client.number client.n client.f memory k message
  taken_in_memory h k message transition lent replies left is_rest step put =
      ap (λ (z : List ℕ). outcome.after (Ok (record { sends = transition.sends; answer = transition.answer })) z)
      (put ∙ ap (λ (z : List ℕ). head_of transition.client.phase transition.client.reads ++ z)
      (last_put memory (memory_long client.n client.f memory h) replies))
      ∙ ap (λ (a : After). record {
        memory = head_of a.client.phase a.client.reads ++ a.replies;
        sends = a.sends;
        answer = Ok a.answer;
      }) (step ∙ ap (received_by k message) (lent_view lent is_rest))

  -- and one on a copy sends the same
  pub copy_sends : (k : ℕ) (message : Message) (sent : List Message) (copy : List ℕ)
      → copy ≡ drop replies_at memory
      → sent ≡ (received_pair_of client copy k message).sends
      → sent ≡ (outcome.taken_of client.number client.n client.f memory k message).sends
  copy_sends k message sent copy same step =
      step ∙ ap (λ (z : List ℕ). (received_pair_of client z k message).sends) same
      ∙ pair_sends client (drop replies_at memory) k message
      ∙ ap (λ (y : model.Client). (received_by k message y).sends) (lent_view (drop replies_at memory) refl)
