-- L: the code's step is the model's.
--
-- Words whose bytes unpack to a message are its words, so the channel gets that message; a stopped client's
-- channel drops it.
-- Assumes nothing.
use Rattle.register.proofs.Vocabulary.{spelt, contains, Refusal, Message, Unpacked, Words, unpack_of}
use Rattle.register.proofs.Vocabulary.{words, words_of, goes, formats, is_server, is_client, capacity, L}
use Rattle.register.proofs.Vocabulary.{has_room, ladder, accepted, World, lies, apply, answer_of, next_servers}
use Rattle.register.proofs.Vocabulary.{next_clients, next_stopped, next_up, next_down, leaves_up, leaves_down}
use Rattle.register.proofs.Vocabulary.{puts_up, puts_down}
use Rattle.register.specs.declared.Answer.TheVariants.{Went}
use Rattle.basics.proofs.Prelude.{◌≡◌, refl, sym, ap, ◌∙◌, Bool, true, false, cond, not, ◌&&◌, ◌||◌, List, []}
use Rattle.basics.proofs.Prelude.{◌∷◌, ◌++◌, length, ℕ, ◌+◌, ◌-◌, ◌<◌, arith, eqb, leb, eqb-true, leb-true}
use Rattle.basics.proofs.Prelude.{not-false}
use Rattle.std.specs.Prelude.{Ok, Err}
use Rattle.basics.proofs.Cases.{by_test, true_or_false}
use Rattle.refusal.proofs.Ladders.{done, same}
use Rattle.message.proofs.RoundTrip.{packing_spells, pack_unpack}
use Rattle.register.specs.declared.Step.TheVariants as code
use Rattle.register.proofs.Dropping.{nothing_put}
use Rattle.register.proofs.Rooms.{unless}
use Rattle.channel.specs.Memory.{count_at, put_on}
use Rattle.state.specs.declared.Settings.{Settings}
use Rattle.state.specs.State.{settings_of, bytes_in, step_of, down_index, store_stopped, store_servers}
use Rattle.state.specs.State.{store_clients, store_slots}
use Rattle.state.proofs.Channels.{store_slots_lem, slots_same, changed, down_put}
use Rattle.steps.specs.After.{after}
use Rattle.steps.specs.InMemory.{placed, on_slots, lied, lie_rungs, lie_step, in_memory}
use Rattle.steps.proofs.Modelled.{outcome_of, memory_at, model_at, step_law}
use Rattle.steps.proofs.Rooms.{WellStored, up_short, down_short, stopped_same, inside, count_down}

-- the words of a message's bytes are its words
words_are : (given : Words) (message : Message) → unpack_of (bytes_in given) ≡ Ok message
    → words (spelt 0 (bytes_in given)) ≡ words_of message
unfolding words_of
words_are given message unpacks =
    ap (λ (s : List ℕ). words (spelt 0 s)) (sym (pack_unpack (bytes_in given) message unpacks).packing)
    ∙ ap words (packing_spells message)

by_unpacked : {A : Type 0} (found : Unpacked) → ((why : Refusal) → found ≡ Err why → A)
    → ((message : Message) → found ≡ Ok message → A) → A
by_unpacked (Err why) f g = f why refl
by_unpacked (Ok message) f g = g message refl

-- ---- one channel, by cases on the tests: `to-client`, it is the client's; `of-server`, it is the
-- server's; `stopped`, the client has stopped

dropped : (to_client of_server stopped : Bool) (l : List Message) (message : Message)
    → (to_client ≡ true → stopped ≡ true)
    → l ≡ l ++ cond stopped [] (cond (of_server && to_client) (message ∷ []) [])
dropped to_client false stopped l message h = sym (nothing_put stopped l)
dropped false true stopped l message h = sym (nothing_put stopped l)
dropped true true stopped l message h = rw (h refl) (sym (nothing_put true l))

put_last : (to_client of_server stopped : Bool) (l own : List Message) (message : Message)
    → (to_client ≡ true → stopped ≡ false) → (of_server ≡ true → to_client ≡ true → own ≡ l)
    → cond (of_server && to_client) (own ++ message ∷ []) l
    ≡ l ++ cond stopped [] (cond (of_server && to_client) (message ∷ []) [])
put_last to_client false stopped l own message h g = sym (nothing_put stopped l)
put_last false true stopped l own message h g = sym (nothing_put stopped l)
put_last true true stopped l own message h g = rw (h refl, g refl refl)

module _ (settings : Settings) (world : World) (good : WellStored settings world) where
  module _ (k d : ℕ) (client : is_client (settings_of settings) d ≡ true)
      (server : is_server (settings_of settings) k ≡ true) (given : Words) where
    room_is : contains (store_stopped world) d
        || leb (count_at (store_slots world) (down_index (d - 1) (k - 1)) + 1) capacity
        ≡ world.stopped d || has_room (world.down d k) 1
    unfolding has_room
    room_is = rw (stopped_same settings world good d, count_down settings world good d k client server)

    module _ (message : Message) (unpacks : unpack_of (bytes_in given) ≡ Ok message)
        (room : world.stopped d || has_room (world.down d k) 1 ≡ true) where
      abbrev at : ℕ
      at = down_index (d - 1) (k - 1)

      slots_after : cond (contains (store_stopped world) d) (store_slots world)
          (put_on (store_slots world) at (words (spelt 0 (bytes_in given))))
          ≡ store_slots (apply (settings_of settings) world (lies k d message))
      unfolding changed has_room apply next_up next_down leaves_up leaves_down puts_up puts_down
      slots_after =
          let next = apply (settings_of settings) world (lies k d message) in
          let up_same : (other j : ℕ) → world.up other j ≡ next.up other j =
          λ other j. sym (nothing_put ((settings_of settings).faulty j) (world.up other j)) in
          rw (stopped_same settings world good d) (by_test (world.stopped d)
          (λ s. rw s
          (store_slots_lem world ∙ slots_same world.up next.up world.down next.down up_same
          (λ other j. dropped (eqb d other) (eqb k j) (world.stopped other) (world.down other j) message
          (λ c. rw (← (eqb-true d other c)) s)) ∙ sym (store_slots_lem next)))
          (λ s. let fits = leb-true (length (world.down d k) + 1) capacity
          (unless (world.stopped d) _ room s) in
          let less : length (world.down d k) < capacity = omega arith in
          rw s
          (ap (λ (y : Words). put_on (store_slots world) at y) (words_are given message unpacks)
          ∙ ap (λ (slots : List ℕ). put_on slots at (words_of message)) (store_slots_lem world)
          ∙ down_put world.up world.down d k (inside settings world good d k client server)
          (up_short settings world good) (down_short settings world good) message less
          ∙ slots_same world.up next.up (changed world.down d k (world.down d k ++ message ∷ []))
          next.down up_same
          (λ other j. put_last (eqb d other) (eqb k j) (world.stopped other) (world.down other j)
          (world.down d k) message
          (λ c. rw (← (eqb-true d other c)) s) (λ b c. rw (eqb-true d other c, eqb-true k j b)))
          ∙ sym (store_slots_lem next))))

      lies_law : on_slots (store_servers world) (store_clients world)
          (lied (store_stopped world) (store_slots world) k d given)
          ≡ outcome_of (settings_of settings) world (lies k d message)
      unfolding answer_of apply next_stopped next_servers next_clients store_stopped store_servers store_clients
      lies_law =
          λ i. after (Ok Went) (store_servers world) (store_clients world) (slots_after i)

    pub lie_law : memory_at settings world (code.L k d given) ≡ model_at settings world (code.L k d given)
    unfolding in_memory lie_step step_of ladder accepted settings_of goes store_clients
    lie_law =
        step_law (settings_of settings) formats world (on_slots (store_servers world) (store_clients world))
        (λ a. placed a (store_slots world)) (λ a. refl)
        (L k d (bytes_in given)) (lie_rungs settings (store_stopped world) (store_slots world) k d given)
        (lied (store_stopped world) (store_slots world) k d given)
        (same refl (λ e. same refl (λ e. same refl (λ e. same (ap not room_is) (λ e. done)))))
        (λ none en. by_unpacked (unpack_of (bytes_in given))
        (λ why e. absurd (true_or_false true refl (rw e at none.1.1.0)))
        (λ message e. rw e (lies_law message e (not-false _ none.1.1.1.0))))
