-- Servers in lent memory and servers of the model are the same thing, where memory is sound and the model has
-- no reader but clients 1 to 6: `view_store`, `store_view`.
--
-- Why: a list of two numbers is its two numbers, and readers below 2 ^ 8 are their own low byte, so that
-- loading and listing the numbers undo each other (`loaded_numbers`, `numbers_loaded`); the rest is the same
-- fact of servers by value (`Views`). What is stored is sound (`store_sound`), and what is loaded from sound
-- memory is sound (`loaded_sound`).
-- Assumes nothing.
use Rattle.basics.proofs.Prelude.{◌≡◌, refl, sym, ap, true, List, [], ◌∷◌, length, get_or, set, ℕ, ◌%◌, ◌^◌}
use Rattle.basics.proofs.Prelude.{◌<◌, arith, eqb, eqb-true, ltb-true, lt-ltb}
use native.Mathlib.Nat.{mod-eq_of_lt}
use Rattle.register.proofs.Vocabulary.{set_of, new_server, most_clients}
use Rattle.basics.proofs.Cases.{both}
use Rattle.basics.proofs.BitSets.{set_lt}
use Rattle.register.specs.Server as model
use Rattle.server.specs.declared.Server.{Server}
use Rattle.server.specs.State as state
use Rattle.server.specs.Memory.{pair_at, readers_at, server_length, loaded, numbers_of, view, store}
use Rattle.server.specs.Memory.{is_sound}
use Rattle.server.proofs.Views as views
use Rattle.server.proofs.Views.{Formed}

-- ---- two numbers

two : (memory : List ℕ) → length memory ≡ server_length
    → get_or memory pair_at 0 ∷ get_or memory readers_at 0 ∷ [] ≡ memory
two [] h = absurd (let z : ⊥ = omega arith in z)
two (a ∷ []) h = absurd (let z : ⊥ = omega arith in z)
two (a ∷ b ∷ []) h = refl
two (a ∷ b ∷ c ∷ memory) h = absurd (let z : ⊥ = omega arith in z)

pub two_set : (memory : List ℕ) (a b : ℕ) → length memory ≡ server_length
    → set (set memory 0 a) 1 b ≡ a ∷ b ∷ []
two_set memory a b h = ap (λ (l : List ℕ). set (set l 0 a) 1 b) (sym (two memory h))

-- ---- soundness

pub sound_length : (memory : List ℕ) → is_sound memory ≡ true → length memory ≡ server_length
unfolding is_sound
sound_length memory h = eqb-true (length memory) server_length (both (eqb (length memory) server_length) _ h).0

pub sound_few : (memory : List ℕ) → is_sound memory ≡ true → get_or memory readers_at 0 < 2 ^ most_clients
unfolding is_sound
sound_few memory h =
    ltb-true (get_or memory readers_at 0) (2 ^ most_clients) (both (eqb (length memory) server_length) _ h).1

low_byte : (memory : List ℕ) → is_sound memory ≡ true
    → get_or memory readers_at 0 % 2 ^ 8 ≡ get_or memory readers_at 0
low_byte memory h = let few = sound_few memory h in mod-eq_of_lt (omega arith)

pub loaded_sound : (memory : List ℕ) → is_sound memory ≡ true → state.sound (loaded memory) ≡ true
unfolding loaded state.sound
loaded_sound memory h =
    rw (low_byte memory h) (lt-ltb (get_or memory readers_at 0) (2 ^ most_clients) (sound_few memory h))

pub store_sound : (server : model.Server) → is_sound (store server) ≡ true
unfolding store numbers_of is_sound state.store
store_sound server =
    lt-ltb (set_of server.readers most_clients) (2 ^ most_clients) (set_lt server.readers most_clients)

-- ---- loading and storing

pub loaded_numbers : (server : Server) → server.readers < 2 ^ 8 → loaded (numbers_of server) ≡ server
unfolding loaded numbers_of
loaded_numbers server h = rw (mod-eq_of_lt h)

pub numbers_loaded : (memory : List ℕ) → is_sound memory ≡ true → numbers_of (loaded memory) ≡ memory
unfolding loaded numbers_of
numbers_loaded memory h = rw (low_byte memory h) (two memory (sound_length memory h))

pub view_store : (server : model.Server) → Formed server → view (store server) ≡ server
unfolding view store
view_store server formed =
    let few = views.few (state.store server) (views.store_sound server) in
    rw (loaded_numbers (state.store server) (omega arith)) (views.view_store server formed)

pub store_view : (memory : List ℕ) → is_sound memory ≡ true → store (view memory) ≡ memory
unfolding view store
store_view memory h = rw (views.store_view (loaded memory) (loaded_sound memory h)) (numbers_loaded memory h)

pub view_formed : (memory : List ℕ) → is_sound memory ≡ true → Formed (view memory)
unfolding view
view_formed memory h = views.view_formed (loaded memory) (loaded_sound memory h)

pub store_length : (server : model.Server) → length (store server) ≡ server_length
unfolding store numbers_of
store_length server = refl

-- at setup all is zero
pub store_new : store new_server ≡ 0 ∷ 0 ∷ []
unfolding store numbers_of state.store set_of
store_new = refl
