-- D: the code's step is the model's.
--
-- The message in the first slot is the oldest of the channel, and the client is found again in its memory, so
-- the code makes of the message what the client makes of it; its memory is stored again, and its messages go
-- in the room that the ladder has tested.
-- Assumes nothing.
use Rattle.basics.proofs.Prelude.{◌≡◌, refl, sym, ap, ◌∙◌, true, false, not, List, ◌∷◌, length, ℕ, ◌-◌, ◌≤◌}
use Rattle.basics.proofs.Prelude.{le_refl, arith, eqb}
use Rattle.std.specs.Prelude.{Ok}
use Rattle.basics.proofs.Cases.{by_list, true_or_false}
use Rattle.refusal.proofs.Ladders.{done, same}
use Rattle.register.proofs.Vocabulary.{Message, Response, formats, is_server, is_client, capacity, D}
use Rattle.register.proofs.Vocabulary.{is_empty, oldest, ladder, accepted, World, takes, response_of}
use Rattle.register.proofs.Vocabulary.{apply, answer_of, next_servers, next_clients, next_stopped, next_up}
use Rattle.register.proofs.Vocabulary.{next_down, leaves_up, leaves_down, puts_up, puts_down, FromServer}
use Rattle.register.specs.declared.Step.TheVariants as code
use Rattle.register.specs.Steps as model
use Rattle.register.proofs.Bounds.{client_small}
use Rattle.register.proofs.Dropping.{nothing_put}
use Rattle.register.proofs.Enabled.{Enabled}
use Rattle.register.proofs.WellChannels.{oldest_kind}
use Rattle.channel.specs.Memory.{removed}
use Rattle.client.specs.Memory.{store}
use Rattle.state.specs.declared.Settings.{Settings}
use Rattle.state.specs.State.{settings_of, step_of, down_index, put_client, store_servers, store_clients}
use Rattle.state.specs.State.{store_slots}
use Rattle.state.proofs.Formats.{server_message}
use Rattle.state.proofs.Channels.{store_slots_lem, slots_same, changed, short_changed, down_remove, down_oldest}
use Rattle.state.proofs.StoredParts.{client_put}
use Rattle.steps.specs.After.{after}
use Rattle.steps.specs.InMemory as memory
use Rattle.steps.specs.InMemory.{result, keeping, on_clients, room_up, send_up, reply_at, oldest_taken}
use Rattle.steps.specs.InMemory.{take_result, take_rungs, take_step, in_memory}
use Rattle.steps.proofs.SendingUp.{sent_up, send_up_lem}
use Rattle.steps.proofs.Modelled.{outcome_of, memory_at, model_at, step_law}
use Rattle.steps.proofs.Rooms.{WellStored, few_servers_lem, up_short, down_short, stopped_same, inside}
use Rattle.steps.proofs.Rooms.{count_down}
use Rattle.steps.proofs.Rooms.{empty_is}
use Rattle.steps.proofs.Rooms.{room_up_is, room_of}
use Rattle.steps.proofs.Starts.{shown_is}

module _ (settings : Settings) (world : World) (good : WellStored settings world) where
  module _ (d k : ℕ) (client : is_client (settings_of settings) d ≡ true)
      (server : is_server (settings_of settings) k ≡ true) where
    -- what the client makes of the oldest message, by its memory
    abbrev taken_in : Response
    taken_in = oldest_taken settings (store_clients world) (store_slots world) d k

    -- ---- the message that waits

    module _ (message : Message) (rest : List Message) (waits : world.down d k ≡ message ∷ rest) where
      message_is : reply_at (store_slots world) d k ≡ Ok message
      message_is =
          rw (store_slots_lem world)
          (down_oldest world.up world.down d k (inside settings world good d k client server)
          (up_short settings world good) (down_short settings world good) message rest waits
          (server_message message
          (oldest_kind FromServer (world.down d k) message rest waits (good.well.down d k))))

      took_is : taken_in ≡ response_of (settings_of settings) world d k message
      unfolding settings_of
      took_is = λ i. memory.taken_for settings.n settings.f d
          (shown_is settings world good d client i) k (message_is i)

    room_is : is_empty (world.down d k) ≡ false
        → room_up settings (store_slots world) (d - 1) (length taken_in.sends)
        ≡ model.room_up (settings_of settings) formats world d
        (length (response_of (settings_of settings) world d k (oldest (world.down d k))).sends)
    unfolding is_empty oldest
    room_is some =
        by_list (world.down d k) (λ e. absurd (true_or_false true refl (rw e at some)))
        (λ message rest e. rw e
        (ap (λ (x : Response). room_up settings (store_slots world) (d - 1) (length x.sends))
        (took_is message rest e) ∙ room_up_is settings world good d client
        (length (response_of (settings_of settings) world d k message).sends)))

    -- ---- it is taken

    module _ (message : Message) (rest : List Message)
        (en : Enabled (settings_of settings) formats world (takes d k message rest)) where
      abbrev taker : Response
      taker = response_of (settings_of settings) world d k message

      slots_after : send_up settings (removed (store_slots world) (down_index (d - 1) (k - 1))) (d - 1)
          taker.sends
          ≡ store_slots (apply (settings_of settings) world (takes d k message rest))
      unfolding settings_of is_server sent_up changed apply next_up next_down leaves_up leaves_down puts_up puts_down
      slots_after =
          let named = inside settings world good d k client server in
          let up_fits = up_short settings world good in
          let down_fits = down_short settings world good in
          let next = apply (settings_of settings) world (takes d k message rest) in
          let down = changed world.down d k rest in
          let more = length taker.sends in
          let rest_fits : length rest ≤ capacity = let h = down_fits d k in let g = ap length
          en.channel in omega arith in
          ap (λ (b : List ℕ). send_up settings (removed b (down_index (d - 1) (k - 1))) (d - 1) taker.sends)
          (store_slots_lem world) ∙ ap (λ (b : List ℕ). send_up settings b (d - 1) taker.sends)
          (down_remove world.up world.down d k named up_fits down_fits message rest en.channel)
          ∙ send_up_lem settings d named.low named.high (few_servers_lem settings world good) down
          (short_changed world.down d k rest down_fits rest_fits) taker.sends world.up up_fits
          (room_of settings world good d client more more (le_refl more) en.room)
          ∙ slots_same _ next.up down next.down (λ e j. refl)
          (λ e j. sym (nothing_put (world.stopped e) (down e j))) ∙ sym (store_slots_lem next)

      clients_after : put_client (store_clients world) (d - 1) (store taker.client)
          ≡ store_clients (apply (settings_of settings) world (takes d k message rest))
      unfolding store_clients apply next_clients next_stopped
      clients_after =
          let range = client_small (settings_of settings) good.accepted d client in
          client_put _ world.clients d range.0 range.1 taker.client

      takes_law : on_clients (store_servers world)
          (take_result settings (store_clients world) (store_slots world) d k)
          ≡ outcome_of (settings_of settings) world (takes d k message rest)
      unfolding answer_of apply next_servers store_servers
      takes_law =
          ap (λ (x : Response). on_clients (store_servers world)
          (result (Ok x.answer) (put_client (store_clients world) (d - 1) (store x.client))
          (send_up settings (removed (store_slots world) (down_index (d - 1) (k - 1))) (d - 1) x.sends)))
          (took_is message rest en.channel)
          ∙ (λ i. after (Ok taker.answer) (store_servers world) (clients_after i) (slots_after i))

    pub take_law : memory_at settings world (code.D d k) ≡ model_at settings world (code.D d k)
    unfolding in_memory take_step step_of ladder accepted is_empty store_clients
    take_law =
        step_law (settings_of settings) formats world (on_clients (store_servers world))
        (keeping (store_clients world) (store_slots world)) (λ a. refl)
        (D d k) (take_rungs settings (store_clients world) (store_slots world) d k)
        (take_result settings (store_clients world) (store_slots world) d k)
        (same refl (λ e. same (stopped_same settings world good d) (λ e. same
        (ap (λ (n : ℕ). eqb n 0) (count_down settings world good d k client server)
        ∙ empty_is (world.down d k))
        (λ some. same (ap not (room_is some)) (λ e. done)))))
        (λ none en. by_list (world.down d k)
        (λ e. absurd (true_or_false true refl (rw e at none.1.1.0)))
        (λ message rest e. rw e (takes_law message rest (rw e at en))))
