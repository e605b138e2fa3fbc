-- D: what a client sends at once fits in two slots; and the last rung of a take, and what it gives.
--
-- By cases on what comes of a message, a client sends at most DONE and WRITE_INFO (`few_outcome`). A message
-- that it does not take leaves the client and sends nothing: there is room for nothing, and a sound memory is
-- that of what it shows, so that only the message goes (`off_gives`).
-- Assumes nothing.
use Rattle.register.proofs.Vocabulary.{contains, Message, WriteAck, WriteCounter, Unpacked}
use Rattle.register.proofs.Vocabulary.{counted, enough, capacity, most_clients, most_servers}
use Rattle.register.specs.declared.Answer.TheVariants.{Went}
use Rattle.basics.proofs.Prelude.{◌≡◌, refl, sym, ap, ◌∙◌, subst, Bool, true, false, ◌||◌, List, length, ℕ}
use Rattle.basics.proofs.Prelude.{suc, ◌+◌, ◌-◌, ◌≤◌, ◌<◌, arith, leb, leb-true, le-leb}
use Rattle.std.specs.Prelude.{Ok, Err}
use Rattle.basics.proofs.Cases.{by_test}
use Rattle.basics.proofs.Tests.{below, below_of}
use Rattle.refusal.specs.declared.Refusal.TheVariants.{FullChannel}
use Rattle.register.specs.Client as model
use Rattle.register.proofs.Outcomes as cases
use Rattle.register.proofs.Outcomes.{dropped, waits, shows, spends, sends, acks, ends}
use Rattle.channel.specs.Memory.{count_at, removed}
use Rattle.channel.specs.Sound.{CountsFit}
use Rattle.client.specs.declared.Client.{Client}
use Rattle.client.specs.declared.Outcome.{Outcome}
use Rattle.client.specs.Memory as client
use Rattle.client.specs.Outcome as outcome
use Rattle.client.specs.Outcome.{taken_of}
use Rattle.client.specs.Outcome.{messages_of}
use Rattle.client.specs.Sound.{is_sound_memory}
use Rattle.client.specs.Memory.{client_length}
use Rattle.client.proofs.Memory.{store_view}
use Rattle.state.specs.declared.Settings.{Settings}
use Rattle.state.specs.State.{settings_of, up_index, down_index, client_start, client_at, put_client}
use Rattle.steps.specs.InMemory.{room_up, send_up, result, shown, reply_at, taken_for}
use Rattle.steps.specs.InMemory.{take_oldest}
use Rattle.steps.proofs.Fitting.{room_silent}
use Rattle.steps.proofs.Lent.{same_back}

few_outcome : (settings : Settings) (d : ℕ) (held : model.Client) (k : ℕ) (message : Message)
    (response : model.Response) → cases.Outcome (settings_of settings) d held k message response
    → length response.sends ≤ 2
few_outcome settings d held k message response (dropped _) = omega arith
few_outcome settings d held k message response (waits _ _ _ _) = omega arith
few_outcome settings d held k message response (shows _ _ _ _ _) = omega arith
few_outcome settings d held k message response (spends _ _ _ _ _ _ _) = omega arith
few_outcome settings d held k message response (sends _ _ _ _ _ _ _) = omega arith
few_outcome settings d held k message response (acks _ _ _ _ _) = omega arith
few_outcome settings d held k message response (ends _ _ _ _ _) = omega arith

few_sent : (settings : Settings) (d : ℕ) (held : model.Client) (k : ℕ) (message : Message)
    → length (model.client_takes settings.n settings.f d held k message).sends ≤ 2
unfolding settings_of
few_sent settings d held k message = few_outcome settings d held k message _
    (cases.outcome (settings_of settings) d held k message)

either_room : (drops : Bool) (n more : ℕ) → more ≤ 2 → drops || leb (n + 2) capacity ≡ true
    → drops || leb (n + more) capacity ≡ true
either_room true n more h e = refl
either_room false n more h e = let room = leb-true (n + 2) capacity e in le-leb (n + more) capacity
    (omega arith)

room_less : (settings : Settings) (slots : List ℕ) (i more : ℕ) → more ≤ 2 → room_up settings slots i 2 ≡ true
    → room_up settings slots i more ≡ true
unfolding room_up
room_less settings slots i more h e =
    below_of _ settings.n
    (λ j less. either_room (contains settings.faulty (suc j)) (count_at slots (up_index i j)) more h
    (below _ settings.n e j less))

-- two free slots are enough
pub room_enough : (settings : Settings) (slots : List ℕ) (i d : ℕ) (held : model.Client) (k : ℕ)
    (message : Message) → room_up settings slots i 2 ≡ true → room_up settings slots i
    (length (model.client_takes settings.n settings.f d held k message).sends) ≡ true
room_enough settings slots i d held k message h = room_less settings slots i _
    (few_sent settings d held k message) h

-- nothing is sent for an acknowledgement
ack_sends : (n f d : ℕ) (held : model.Client) (k : ℕ) (number : WriteCounter)
    → length (model.client_takes n f d held k (WriteAck number)).sends ≡ 0
unfolding model.client_takes model.acknowledged
ack_sends n f d held k number =
    by_test (model.is_storing held.phase number)
    (λ e. rw e (by_test (enough n f (counted (model.with_ack held k).acks n)) (λ q. rw q) (λ q. rw q)))
    (λ e. rw e)

pub room_ack : (settings : Settings) (slots : List ℕ) (i d : ℕ) (held : model.Client) (k : ℕ)
    (message : Message) (number : WriteCounter) → message ≡ WriteAck number
    → settings.n ≤ most_servers → CountsFit slots → i < most_clients → room_up settings slots i
    (length (model.client_takes settings.n settings.f d held k message).sends) ≡ true
room_ack settings slots i d held k message number e few fit less =
    ap (λ (y : Message). room_up settings slots i
    (length (model.client_takes settings.n settings.f d held k y).sends)) e
    ∙ ap (room_up settings slots i) (ack_sends settings.n settings.f d held k number)
    ∙ room_silent settings slots i few fit less

-- ---- what the functions of a client ask of it, and of the server k whose message it is given

abbrev pub Asked : Client → ℕ → ℕ → ℕ → List ℕ → ℕ → Type 0
Asked loaded d n f memory k =
    (loaded ≡ client.loaded d n f memory) × (is_sound_memory n f memory ≡ true)
    × (1 ≤ d) × (d ≤ most_clients)
    × (1 ≤ k)
    × (k ≤ n)

-- they ask it for the client's own number, n and f, which are those that it was loaded with
pub own_asked : (loaded : Client) (d n f : ℕ) (memory : List ℕ) (k : ℕ) → Asked loaded d n f memory k
    → Asked loaded loaded.number loaded.n loaded.f memory k
own_asked loaded d n f memory k h =
    subst (λ (own : ℕ). Asked loaded own loaded.n loaded.f memory k) (sym (ap (λ (y : Client). y.number) h.0))
    (subst (λ (own : ℕ). Asked loaded d own loaded.f memory k) (sym (ap (λ (y : Client). y.n) h.0))
    (subst (λ (own : ℕ). Asked loaded d n own memory k) (sym (ap (λ (y : Client). y.f) h.0)) h))

-- ---- the step

module _ (settings : Settings) (clients slots : List ℕ) (d k : ℕ) where
  -- what changes nothing only goes off its channel
  pub off_gives : settings.n ≤ most_servers → CountsFit slots → 1 ≤ d → d ≤ most_clients
      → is_sound_memory settings.n settings.f (client_at clients (d - 1)) ≡ true
      → (found : Unpacked) → reply_at slots d k ≡ found
      → taken_for settings.n settings.f d (shown settings clients slots d) k found
      ≡ model.sends_nothing (shown settings clients slots d)
      → (slots₁ : List ℕ) (from : ℕ) → from ≡ down_index (d - 1) (k - 1) → slots₁ ≡ removed slots from
      → result (Ok Went) clients slots₁ ≡ take_oldest settings clients slots d k
  unfolding send_up
  off_gives few fit low high sound found first goes slots₁ from place off =
      let own : put_client clients (d - 1) (client.store (shown settings clients slots d)) ≡ clients =
      ap (put_client clients (d - 1)) (store_view settings.n settings.f (client_at clients (d - 1)) sound)
      ∙ same_back (client_start (d - 1)) client_length clients in
      let room : room_up settings slots (d - 1) 0 ≡ true = room_silent settings slots (d - 1) few fit
      (omega arith) in
      rw (first, goes, room) (λ i. result (Ok Went) (sym own i) ((off ∙ ap (removed slots) place) i))

  module _ (message : Message) (first : reply_at slots d k ≡ Ok message) (fits : Bool)
      (room : fits ≡ room_up settings slots (d - 1)
      (length (taken_of d settings.n settings.f (client_at clients (d - 1)) k message).sends)) where
    pub take_refused : fits ≡ false → result (Err FullChannel) clients slots
        ≡ take_oldest settings clients slots d k
    take_refused full = rw (first, sym room ∙ full)

    -- the message taken, off channel `from`, with what client and channels are then
    pub take_gives : fits ≡ true → (made : Outcome) (memory clients' slots₁ slots₂ : List ℕ) (from : ℕ)
        → from ≡ down_index (d - 1) (k - 1)
        → outcome.after (Ok made) memory
        ≡ taken_of d settings.n settings.f (client_at clients (d - 1)) k message
        → clients' ≡ put_client clients (d - 1) memory → slots₁ ≡ removed slots from
        → slots₂ ≡ send_up settings slots₁ (d - 1) (messages_of made.sends)
        → result (Ok made.answer) clients' slots₂ ≡ take_oldest settings clients slots d k
    take_gives enough made memory clients' slots₁ slots₂ from place gives put off sent =
        let off_down : slots₁ ≡ removed slots (down_index (d - 1) (k - 1)) = off ∙ ap (removed slots) place in
        rw (first, sym room ∙ enough)
        ((λ i. result (Ok made.answer) (put i)
        ((sent ∙ ap (λ (q : List ℕ). send_up settings q (d - 1) (messages_of made.sends)) off_down) i))
        ∙ ap (λ (a : outcome.After). result a.answer (put_client clients (d - 1) a.memory)
        (send_up settings (removed slots (down_index (d - 1) (k - 1))) (d - 1) a.sends)) gives)
