-- C: the code's step is the model's.
--
-- The client is one more of the stopped, and the channels to it are empty: those of servers that there are
-- were emptied, and no other was used.
-- Assumes nothing.
use Rattle.basics.proofs.Prelude.{◌≡◌, refl, sym, ap, ◌∙◌, Bool, true, false, cond, ◌&&◌, ◌||◌, List, [], ℕ}
use Rattle.basics.proofs.Prelude.{◌-◌, eqb}
use Rattle.std.specs.Prelude.{Ok}
use Rattle.basics.proofs.UpTo.{and-false}
use mathlib.Core.Path.{fun_ext}
use Rattle.register.proofs.Vocabulary.{update, contains, set_of, is_up_to, Message, formats, is_server, is_client}
use Rattle.register.proofs.Vocabulary.{most_clients, C, ladder, accepted, World, stops, apply, answer_of}
use Rattle.register.proofs.Vocabulary.{next_servers, next_clients, next_stopped, next_up, next_down, leaves_up}
use Rattle.register.proofs.Vocabulary.{leaves_down, puts_up, puts_down}
use Rattle.register.specs.declared.Answer.TheVariants.{Went}
use Rattle.refusal.proofs.Ladders.{done, same}
use Rattle.register.specs.declared.Step.TheVariants as code
use Rattle.register.proofs.Bounds.{client_small}
use Rattle.register.proofs.Dropping.{nothing_put}
use Rattle.state.specs.declared.Settings.{Settings}
use Rattle.state.specs.State.{settings_of, step_of, put_stopped, store_stopped, store_servers}
use Rattle.state.specs.State.{store_clients, store_slots}
use Rattle.state.proofs.Channels.{store_slots_lem, slots_same}
use Rattle.state.proofs.StoredParts.{clients_of}
use Rattle.steps.specs.After.{after}
use Rattle.steps.specs.InMemory.{keeping, on_clients, emptied, stop_result, stop_rungs, stop_step, in_memory}
use Rattle.steps.proofs.Emptying.{without, empty_all}
use Rattle.steps.proofs.Stopping.{either}
use Rattle.steps.proofs.Modelled.{memory_at, model_at, step_law}
use Rattle.steps.proofs.Rooms.{WellStored, few_servers_lem, up_short, down_short, stopped_same}

emptied_all : (own there : Bool) (l : List Message) → (there ≡ false → l ≡ []) → cond (own && there) [] l
    ≡ cond own [] l
emptied_all false there l h = refl
emptied_all true true l h = refl
emptied_all true false l h = h refl

module _ (settings : Settings) (world : World) (good : WellStored settings world) where
  module _ (d : ℕ) (client : is_client (settings_of settings) d ≡ true) where
    stopped_after : set_of (λ other. eqb d other || contains (store_stopped world) other) most_clients
        ≡ store_stopped (apply (settings_of settings) world (stops d))
    unfolding store_stopped apply next_stopped update
    stopped_after =
        ap (λ (p : ℕ → Bool). set_of p most_clients)
        (fun_ext (λ other. ap (λ (b : Bool). eqb d other || b) (stopped_same settings world good other)
        ∙ either (eqb d other) (world.stopped other)))

    unused : (other k : ℕ) → is_up_to settings.n k ≡ false → world.down other k ≡ []
    unfolding settings_of is_server
    unused other k h = good.well.down_unused other k (and-false (is_client (settings_of settings) other) _ h)

    slots_after : emptied (store_slots world) (d - 1) settings.n
        ≡ store_slots (apply (settings_of settings) world (stops d))
    unfolding without apply next_up next_down leaves_up leaves_down puts_up puts_down
    slots_after =
        let range = client_small (settings_of settings) good.accepted d client in
        let next = apply (settings_of settings) world (stops d) in
        let down = without d settings.n world.down in
        ap (λ (b : List ℕ). emptied b (d - 1) settings.n) (store_slots_lem world)
        ∙ empty_all d range.0 range.1 world.up world.down (up_short settings world good)
        (down_short settings world good) settings.n (few_servers_lem settings world good)
        ∙ slots_same world.up next.up down next.down
        (λ other k. sym (nothing_put ((settings_of settings).faulty k) (world.up other k)))
        (λ other k. emptied_all (eqb d other) (is_up_to settings.n k) (world.down other k)
        (unused other k)
        ∙ sym (nothing_put (world.stopped other) (cond (eqb d other) [] (world.down other k))))
        ∙ sym (store_slots_lem next)

    clients_after : put_stopped (store_clients world)
        (set_of (λ other. eqb d other || contains (store_stopped world) other) most_clients)
        ≡ store_clients (apply (settings_of settings) world (stops d))
    unfolding store_clients apply next_clients
    clients_after = ap (λ (z : ℕ). clients_of z world.clients) stopped_after

    pub stop_law : memory_at settings world (code.C d) ≡ model_at settings world (code.C d)
    unfolding in_memory stop_step step_of ladder accepted answer_of apply next_servers store_servers store_clients
    stop_law =
        step_law (settings_of settings) formats world (on_clients (store_servers world))
        (keeping (store_clients world) (store_slots world)) (λ a. refl)
        (C d) (stop_rungs settings (store_clients world) (store_slots world) d)
        (stop_result settings (store_clients world) (store_slots world) d)
        (same refl (λ e. same (stopped_same settings world good d) (λ e. done)))
        (λ none en. λ i. after (Ok Went) (store_servers world) (clients_after i) (slots_after i))
