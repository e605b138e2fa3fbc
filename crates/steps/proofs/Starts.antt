-- R and W: the code's step is the model's.
--
-- A client that starts is idle, so it holds nothing of any server and its replies are zeros before and after:
-- only the head of its memory changes. GET_INFO goes on its channels in the room that the ladder has tested.
-- Assumes nothing.
use Rattle.basics.proofs.Prelude.{◌≡◌, refl, sym, ap, ◌∙◌, true, false, not, ◌&&◌, List, [], ◌∷◌, ◌++◌, None}
use Rattle.basics.proofs.Prelude.{ℕ, ◌-◌, ◌≤◌, arith, leb}
use Rattle.std.specs.Prelude.{Ok}
use mathlib.Core.Path.{fun_ext}
use Rattle.basics.proofs.Cases.{true_or_false}
use Rattle.basics.proofs.UpTo.{and-false}
use Rattle.refusal.proofs.Ladders.{done, same}
use Rattle.register.proofs.Vocabulary.{last_read, Entry, Message, GetInfo, ReadNumber, WriteCounter, Client}
use Rattle.register.proofs.Vocabulary.{cleared, is_idle, is_reading, next_read, started, formats, is_server}
use Rattle.register.proofs.Vocabulary.{is_client, R, W, Formats, ladder, accepted, World, begins, apply}
use Rattle.register.proofs.Vocabulary.{answer_of, next_servers, next_clients, next_stopped, next_up, next_down}
use Rattle.register.proofs.Vocabulary.{leaves_up, leaves_down, puts_up, puts_down, WellClient}
use Rattle.register.specs.declared.Answer.TheVariants.{Went}
use Rattle.register.specs.declared.Phase.{Phase}
use Rattle.register.specs.declared.Phase.TheVariants.{Idle, Reading, ReadingForWrite, Storing}
use Rattle.register.specs.declared.Step.TheVariants as code
use Rattle.register.specs.Settings as model
use Rattle.register.proofs.Bounds.{client_small}
use Rattle.register.proofs.Dropping.{nothing_put}
use Rattle.register.proofs.Enabled.{Enabled, slots_for}
use Rattle.replies.specs.Replies.{store_replies}
use Rattle.replies.proofs.Storing.{store_cleared}
use Rattle.client.specs.Memory.{head_of, stored}
use Rattle.state.specs.declared.Settings.{Settings}
use Rattle.state.specs.State.{settings_of, step_of, client_at, put_client, store_servers, store_clients}
use Rattle.state.specs.State.{store_slots}
use Rattle.state.proofs.Channels.{store_slots_lem, slots_same}
use Rattle.state.proofs.StoredParts.{client_at_lem, client_put}
use Rattle.state.proofs.Viewed.{client_is}
use Rattle.steps.specs.After.{after}
use Rattle.steps.specs.InMemory.{send_up, keeping, on_clients, shown, begun, is_busy, is_exhausted}
use Rattle.steps.specs.InMemory.{read_rungs, write_rungs}
use Rattle.steps.specs.InMemory.{read_step, write_step, in_memory}
use Rattle.steps.proofs.SendingUp.{sent_up, send_up_lem}
use Rattle.steps.proofs.Modelled.{on, outcome_of, memory_at, model_at, step_law}
use Rattle.steps.proofs.Rooms.{WellStored, few_servers_lem, up_short, down_short, stopped_same}
use Rattle.steps.proofs.Rooms.{room_up_is}
use Rattle.steps.proofs.Rooms.{room_of}

-- ---- an idle client

not_reading : (phase : Phase) → is_idle phase ≡ true → is_reading phase ≡ false
unfolding is_idle is_reading
not_reading Idle h = refl
not_reading Reading h = absurd (true_or_false false h refl)
not_reading (ReadingForWrite entry) h = absurd (true_or_false false h refl)
not_reading (Storing entry counter) h = refl

not_storing : (phase : Phase) → is_idle phase ≡ true → (entry : Entry) (counter : WriteCounter)
    → phase ≡ Storing entry counter → ⊥
unfolding is_idle
not_storing phase h entry counter q = true_or_false (is_idle phase) h (ap is_idle q)

pub idle_empty : (S : model.Settings) (F : Formats) (client : Client) → WellClient S F client
    → is_idle client.phase ≡ true → client ≡ cleared client.phase client.reads
idle_empty S F client well idle =
    let unused : (k : ℕ) → is_server S k && is_reading client.phase ≡ false =
    λ k. and-false (is_server S k) (is_reading client.phase) (not_reading client.phase idle) in
    let noted : client.noted ≡ (λ k. None) = fun_ext (λ k. well.noted_unused k (unused k)) in
    let sets : client.sets ≡ (λ k. []) = fun_ext (λ k. well.sets_unused k (unused k)) in
    let acks : client.acks ≡ (λ k. false) = fun_ext
    (λ k. well.acks_idle (not_storing client.phase idle) k) in
    λ i. record {
      phase = client.phase;
      reads = client.reads;
      noted = noted i;
      sets = sets i;
      acks =
          acks i;
    }

one_slot : (phase : Phase) → 1 ≤ slots_for phase
one_slot Idle = omega arith
one_slot Reading = omega arith
one_slot (ReadingForWrite e) = omega arith
one_slot (Storing e c) = omega arith

-- ---- a start

module _ (settings : Settings) (world : World) (good : WellStored settings world) where
  module _ (d : ℕ) (client : is_client (settings_of settings) d ≡ true) where
    -- the client is found again in its memory
    pub shown_is : on world (λ s. shown settings) d ≡ world.clients d
    shown_is = let range = client_small (settings_of settings) good.accepted d client in
        client_is settings good.accepted world good.well d range.0 range.1

    module _ (phase : Phase) (en : Enabled (settings_of settings) formats world (begins d phase)) where
      slots_after : send_up settings (store_slots world) (d - 1) (GetInfo (next_read (world.clients d)) ∷ [])
          ≡ store_slots (apply (settings_of settings) world (begins d phase))
      unfolding settings_of is_server sent_up apply next_up next_down leaves_up leaves_down puts_up puts_down
      slots_after =
          let range = client_small (settings_of settings) good.accepted d client in
          let message : Message = GetInfo (next_read (world.clients d)) in
          let next = apply (settings_of settings) world (begins d phase) in
          ap (λ (b : List ℕ). send_up settings b (d - 1) (message ∷ [])) (store_slots_lem world)
          ∙ send_up_lem settings d range.0 range.1 (few_servers_lem settings world good) world.down
          (down_short settings world good) (message ∷ []) world.up (up_short settings world good)
          (room_of settings world good d client 1 (slots_for phase) (one_slot phase) en.room)
          ∙ slots_same _ next.up world.down next.down (λ other j. refl)
          (λ other j. sym (nothing_put (world.stopped other) (world.down other j)))
          ∙ sym (store_slots_lem next)

      -- the replies of an idle client are those of the started one
      replies_same : store_replies (world.clients d) ≡ store_replies (started (world.clients d) phase)
      unfolding started
      replies_same =
          let empty = idle_empty (settings_of settings) formats (world.clients d) (good.well.client d)
          en.idle in
          ap store_replies empty ∙ store_cleared (world.clients d).phase (world.clients d).reads
          ∙ sym (store_cleared phase (next_read (world.clients d)))

      -- the clients, with the phase and a read number in what l holds of client d
      abbrev with_head : List ℕ → ReadNumber → List ℕ
      with_head l n =
          put_client (store_clients world) (d - 1)
          (stored l (record { number = d; n = settings.n; f = settings.f; phase = phase; reads = n }))

      clients_after : with_head (client_at (store_clients world) (d - 1)) (next_read (world.clients d))
          ≡ store_clients (apply (settings_of settings) world (begins d phase))
      unfolding store_clients apply next_clients next_stopped started
      clients_after =
          let range = client_small (settings_of settings) good.accepted d client in
          ap (λ (l : List ℕ). with_head l (next_read (world.clients d)))
          (client_at_lem world d range.0 range.1)
          ∙ ap (λ (r : List ℕ). put_client (store_clients world) (d - 1)
          (head_of phase (next_read (world.clients d)) ++ r))
          replies_same
          ∙ client_put _ world.clients d range.0 range.1 (started (world.clients d) phase)

      begins_law : on_clients (store_servers world) (on world (λ s. begun settings) d phase)
          ≡ outcome_of (settings_of settings) world (begins d phase)
      unfolding answer_of apply next_servers store_servers next_read
      begins_law =
          ap (λ (x : Client). after (Ok Went) (store_servers world)
          (with_head (client_at (store_clients world) (d - 1)) (next_read x))
          (send_up settings (store_slots world) (d - 1) (GetInfo (next_read x) ∷ []))) shown_is
          ∙ (λ i. after (Ok Went) (store_servers world) (clients_after i) (slots_after i))

    busy_is : on world (λ s. is_busy settings) d ≡ not (is_idle (world.clients d).phase)
    busy_is = ap (λ (x : Client). not (is_idle x.phase)) shown_is

    exhausted_is : on world (λ s. is_exhausted settings) d ≡ leb last_read (world.clients d).reads.0
    exhausted_is = ap (λ (x : Client). leb last_read x.reads.0) shown_is

    pub read_law : memory_at settings world (code.R d) ≡ model_at settings world (code.R d)
    unfolding in_memory read_step step_of ladder accepted store_clients
    read_law =
        step_law (settings_of settings) formats world (on_clients (store_servers world))
        (keeping (store_clients world) (store_slots world)) (λ a. refl)
        (R d) (on world (λ s. read_rungs settings) d) (on world (λ s. begun settings) d Reading)
        (same refl (λ e. same (stopped_same settings world good d) (λ e. same busy_is (λ e. same exhausted_is
        (λ e. same (ap not (room_up_is settings world good d client 2)) (λ e. done))))))
        (λ _ en. begins_law Reading en)

    pub write_law : (entry : Entry) → memory_at settings world (code.W d entry) ≡ model_at settings world
        (code.W d entry)
    unfolding in_memory write_step step_of ladder accepted store_clients
    write_law entry =
        step_law (settings_of settings) formats world (on_clients (store_servers world))
        (keeping (store_clients world) (store_slots world)) (λ a. refl)
        (W d entry) (on world (λ s. write_rungs settings) d entry)
        (on world (λ s. begun settings) d (ReadingForWrite entry))
        (same refl (λ q. same (stopped_same settings world good d) (λ q. same busy_is (λ q. same refl
        (λ q. same exhausted_is
        (λ q. same (ap not (room_up_is settings world good d client 3)) (λ q. done)))))))
        (λ _ en. begins_law (ReadingForWrite entry) en)
