-- K: the code's step is the model's.
--
-- The message in the first slot is the oldest of the channel, the stored server sends for it what the server
-- sends, and the room that the ladder tests is where it is put.
-- Assumes nothing.
use Rattle.register.proofs.Vocabulary.{contains, Message, formats, Sent, next_server, server_sends}
use Rattle.register.proofs.Vocabulary.{sent_to, is_server, is_client, capacity, K, is_empty, oldest, ladder}
use Rattle.register.proofs.Vocabulary.{accepted, World, serves, apply, answer_of, next_servers, next_clients}
use Rattle.register.proofs.Vocabulary.{next_stopped, next_up, next_down, leaves_up, leaves_down, puts_up, puts_down}
use Rattle.register.proofs.Vocabulary.{FromClient}
use Rattle.register.specs.declared.Answer.TheVariants.{Went}
use Rattle.basics.proofs.Prelude.{◌≡◌, refl, sym, ap, ◌∙◌, Bool, true, false, cond, not, List, [], ◌∷◌, ◌++◌}
use Rattle.basics.proofs.Prelude.{length, ℕ, ◌-◌, ◌≤◌, arith, eqb}
use Rattle.std.specs.Prelude.{Ok}
use Rattle.basics.proofs.Cases.{by_list, true_or_false}
use Rattle.refusal.proofs.Ladders.{done, same}
use Rattle.register.specs.declared.Step.TheVariants as code
use Rattle.register.specs.Steps as model
use Rattle.register.proofs.Bounds.{client_small}
use Rattle.register.proofs.Dropping.{nothing_put}
use Rattle.register.proofs.Enabled.{Enabled}
use Rattle.register.proofs.WellServer.{well_sends}
use Rattle.register.proofs.WellChannels.{oldest_kind}
use Rattle.channel.specs.Memory.{removed}
use Rattle.server.specs.Memory as memory
use Rattle.state.specs.declared.Settings.{Settings}
use Rattle.state.specs.State.{settings_of, step_of, server_at, put_server, up_index, store_stopped, store_servers}
use Rattle.state.specs.State.{store_clients, store_slots}
use Rattle.state.proofs.Formats.{client_message}
use Rattle.state.proofs.Channels.{store_slots_lem, slots_same, changed, short_changed, up_remove, up_oldest}
use Rattle.state.proofs.StoredParts.{server_at_lem, server_put}
use Rattle.state.proofs.StoredServer.{stopped_is, server_is}
use Rattle.steps.specs.After.{after}
use Rattle.steps.specs.InMemory.{keeping, on_servers, room_down, send_down, request_at, served_by, sent_for}
use Rattle.steps.specs.InMemory.{replied, served}
use Rattle.steps.specs.InMemory.{serve_rungs, serve_step, in_memory}
use Rattle.steps.proofs.SendingDown.{sent_down, send_down_lem}
use Rattle.steps.proofs.Modelled.{outcome_of, memory_at, model_at, step_law}
use Rattle.steps.proofs.Rooms.{WellStored, up_short, down_short, inside, count_up, empty_is}
use Rattle.steps.proofs.Rooms.{room_down_is, down_room}

module _ (settings : Settings) (world : World) (good : WellStored settings world) where
  module _ (k d : ℕ) (client : is_client (settings_of settings) d ≡ true)
      (server : is_server (settings_of settings) k ≡ true) where
    -- the server is found again in its memory
    server_shown_lem : memory.view (server_at (store_servers world) (k - 1)) ≡ world.servers k
    server_shown_lem =
        let named = inside settings world good d k client server in
        ap memory.view (server_at_lem world k named.first named.last)
        ∙ server_is (settings_of settings) good.accepted (world.servers k) (good.well.server k)

    -- ---- the message that waits

    module _ (message : Message) (rest : List Message) (waits : world.up d k ≡ message ∷ rest) where
      kind : FromClient message
      kind = oldest_kind FromClient (world.up d k) message rest waits (good.well.up d k)

      request_is : request_at (store_slots world) k d ≡ Ok message
      request_is =
          rw (store_slots_lem world)
          (up_oldest world.up world.down d k (inside settings world good d k client server)
          (up_short settings world good)
          (down_short settings world good) message rest waits (client_message message kind))

      replied_is : replied settings (store_stopped world) (store_servers world) (store_slots world) k d
          ≡ server_sends (world.servers k) d message
      replied_is = λ i. sent_for (server_shown_lem i) d (request_is i)

    room_is : is_empty (world.up d k) ≡ false
        → room_down settings (store_stopped world) (store_slots world) (k - 1)
        (replied settings (store_stopped world) (store_servers world) (store_slots world) k d)
        ≡ model.room_down (settings_of settings) formats world k d (oldest (world.up d k))
    unfolding is_empty oldest
    room_is some =
        by_list (world.up d k) (λ e. absurd (true_or_false true refl (rw e at some)))
        (λ message rest e. rw (replied_is message rest e, e)
        (room_down_is settings world good k server d message))

    -- ---- it is taken

    module _ (message : Message) (rest : List Message)
        (en : Enabled (settings_of settings) formats world (serves k d message rest)) where
      abbrev sends : List Sent
      sends = server_sends (world.servers k) d message

      slots_after : send_down (store_stopped world) (removed (store_slots world) (up_index (d - 1) (k - 1)))
          (k - 1) (replied settings (store_stopped world) (store_servers world) (store_slots world) k d)
          ≡ store_slots (apply (settings_of settings) world (serves k d message rest))
      unfolding settings_of sent_down changed apply next_up next_down leaves_up leaves_down puts_up puts_down
      slots_after =
          let stopped = store_stopped world in
          let named = inside settings world good d k client server in
          let up_fits = up_short settings world good in
          let down_fits = down_short settings world good in
          let kind_is = kind message rest en.channel in
          let next = apply (settings_of settings) world (serves k d message rest) in
          let up = changed world.up d k rest in
          let rest_fits : length rest ≤ capacity = let h = up_fits d k in let g = ap length
          en.channel in omega arith in
          ap (send_down stopped (removed (store_slots world) (up_index (d - 1) (k - 1))) (k - 1))
          (replied_is message rest en.channel)
          ∙ ap (λ (b : List ℕ). send_down stopped (removed b (up_index (d - 1) (k - 1))) (k - 1) sends)
          (store_slots_lem world) ∙ ap (λ (b : List ℕ). send_down stopped b (k - 1) sends)
          (up_remove world.up world.down d k named up_fits down_fits message rest en.channel)
          ∙ send_down_lem stopped k named.first named.last up
          (short_changed world.up d k rest up_fits rest_fits) sends world.down down_fits
          (λ x h. client_small (settings_of settings) good.accepted x.to
          (well_sends (settings_of settings) (world.servers k) d client
          (good.well.server k) message kind_is x h).client)
          (down_room settings world good k server d message client kind_is en.room)
          ∙ slots_same up next.up (sent_down (contains stopped) k sends world.down) next.down
          (λ e j. sym (nothing_put (contains settings.faulty j) (up e j)))
          (λ e j. ap (λ (f : ℕ → Bool). world.down e j ++ cond (f e) [] (cond (eqb k j) (sent_to e sends) []))
          (stopped_is (settings_of settings) good.accepted formats world good.well))
          ∙ sym (store_slots_lem next)

      servers_after : put_server (store_servers world) (k - 1)
          (memory.store (served_by (memory.view (server_at (store_servers world) (k - 1))) d
          (request_at (store_slots world) k d)))
          ≡ store_servers (apply (settings_of settings) world (serves k d message rest))
      unfolding store_servers apply next_servers
      servers_after =
          let named = inside settings world good d k client server in
          (λ j. put_server (store_servers world) (k - 1)
          (memory.store (served_by (server_shown_lem j) d (request_is message rest en.channel j))))
          ∙ server_put world.servers k named.first named.last
          (next_server (world.servers k) d message)

      serves_law : on_servers (store_clients world)
          (served settings (store_stopped world) (store_servers world) (store_slots world) k d)
          ≡ outcome_of (settings_of settings) world (serves k d message rest)
      unfolding answer_of apply next_stopped next_clients store_stopped store_clients
      serves_law =
          λ i. after (Ok Went) (servers_after i) (store_clients world) (slots_after i)

    pub serve_law : memory_at settings world (code.K k d) ≡ model_at settings world (code.K k d)
    unfolding in_memory serve_step step_of ladder accepted settings_of is_empty store_clients
    serve_law =
        step_law (settings_of settings) formats world (on_servers (store_clients world))
        (keeping (store_servers world) (store_slots world)) (λ a. refl)
        (K k d) (serve_rungs settings (store_stopped world) (store_servers world) (store_slots world) k d)
        (served settings (store_stopped world) (store_servers world) (store_slots world) k d)
        (same refl (λ e. same refl (λ e. same
        (ap (λ (n : ℕ). eqb n 0) (count_up settings world good d k client server) ∙ empty_is (world.up d k))
        (λ some. same (ap not (room_is some)) (λ e. done)))))
        (λ none en. by_list (world.up d k) (λ e. absurd (true_or_false true refl (rw e at none.1.1.0)))
        (λ message rest e. rw e (serves_law message rest (rw e at en))))
