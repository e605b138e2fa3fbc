-- K: the last rung of a serve, and what it gives: the server that the message makes stored, and the reply
-- sent.
--
-- The code takes the message off its channel only where the reply fits (`deliver`), and refuses by the same
-- answer: a refusal leaves the slots as they were. What is no message is dropped: nothing is sent, so there
-- is room, and the server stays.
-- Assumes nothing.
use Rattle.basics.proofs.Prelude.{◌≡◌, sym, ap, ◌∙◌, subst, Bool, true, false, List, [], ℕ, ◌-◌, ◌≤◌}
use Rattle.basics.proofs.Prelude.{arith}
use Rattle.std.specs.Prelude.{Ok, Err}
use Rattle.register.proofs.Vocabulary.{Refusal, Message, server_sends, most_clients, most_servers}
use Rattle.register.specs.declared.Answer.TheVariants.{Went}
use Rattle.refusal.specs.declared.Refusal.TheVariants.{FullChannel}
use Rattle.channel.specs.Memory.{removed}
use Rattle.channel.specs.Sound.{CountsFit}
use Rattle.server.specs.declared.Served.{Served}
use Rattle.server.specs.Memory as server
use Rattle.server.specs.Serving.{After, after_of, served_of, sent_by}
use Rattle.server.specs.Memory.{server_length}
use Rattle.server.proofs.Memory.{store_view}
use Rattle.state.specs.declared.Settings.{Settings}
use Rattle.state.specs.State.{up_index, server_start, server_at, put_server}
use Rattle.steps.specs.InMemory.{Delivered, room_down, send_down, result}
use Rattle.steps.specs.InMemory.{request_at}
use Rattle.steps.specs.InMemory.{server_shown, serve_oldest}
use Rattle.steps.proofs.Fitting.{room_none}
use Rattle.steps.proofs.Lent.{same_back}

module _ (settings : Settings) (stopped : ℕ) (servers slots : List ℕ) (k d : ℕ) where
  -- what is no message only goes off its channel
  pub drop_gives : 1 ≤ k → k ≤ most_servers → settings.clients ≤ most_clients → CountsFit slots
      → server.is_sound (server_at servers (k - 1)) ≡ true → (why : Refusal)
      → request_at slots k d ≡ Err why → (slots₁ : List ℕ) (from : ℕ)
      → from ≡ up_index (d - 1) (k - 1) → slots₁ ≡ removed slots from → result (Ok Went) servers slots₁
      ≡ serve_oldest settings stopped servers slots k d
  unfolding send_down sent_by
  drop_gives first last few fit sound why none slots₁ from place off =
      let own : put_server servers (k - 1) (server.store (server_shown settings stopped servers slots k))
      ≡ servers =
      ap (put_server servers (k - 1)) (store_view (server_at servers (k - 1)) sound)
      ∙ same_back (server_start (k - 1)) server_length servers in
      let room : room_down settings stopped slots (k - 1) [] ≡ true = room_none settings stopped slots d
      (k - 1) (omega arith) few fit in
      rw (none, room) (λ i. result (Ok Went) (sym own i) ((off ∙ ap (removed slots) place) i))

  -- a message, the oldest of its channel, is served; `slots₁` are those after the reply
  module _ (message : Message) (made : Served) (fits : Bool) (slots₁ : List ℕ)
      (first : request_at slots k d ≡ Ok message)
      (makes : after_of d made ≡ served_of (server.loaded (server_at servers (k - 1))) d message)
      (reply : Delivered settings stopped slots (d - 1) (k - 1) (sent_by d made.sends) fits slots₁) where
    reply_is : Delivered settings stopped slots (d - 1) (k - 1)
        (server_sends (server_shown settings stopped servers slots k) d message) fits slots₁
    unfolding server.view
    reply_is =
        subst (λ (y : After). Delivered settings stopped slots (d - 1) (k - 1) y.sends fits slots₁) makes
        reply

    pub serve_refused : fits ≡ false → result (Err FullChannel) servers slots₁
        ≡ serve_oldest settings stopped servers slots k d
    serve_refused full =
        rw (first, sym reply_is.0 ∙ full)
        (ap (result (Err FullChannel) servers) (rw full at reply_is.1))

    pub serve_gives : fits ≡ true → (servers' : List ℕ) → servers' ≡ put_server servers (k - 1)
        (server.numbers_of made.server)
        → result (Ok Went) servers' slots₁ ≡ serve_oldest settings stopped servers slots k d
    unfolding server.view server.store
    serve_gives enough servers' e =
        let stored = e ∙ ap (λ (y : After). put_server servers (k - 1) (server.numbers_of y.server)) makes in
        let sent = rw enough at reply_is.1 in
        rw (first, sym reply_is.0 ∙ enough) (λ i. result (Ok Went) (stored i) (sent i))
