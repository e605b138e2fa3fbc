-- A sound server's memory: it holds a well-formed server, the server at setup where it is not used, and
-- storing what it holds gives it back.
--
-- A set below 2 ^ n has no member above n (`outside`), and a set with no member above n is below 2 ^ n
-- (`set_fits`).
-- Assumes nothing.
use Rattle.basics.proofs.Prelude.{◌≡◌, refl, ◌∙◌, Bool, true, false, List, length, get_or, ℕ, zero, suc, ◌%◌}
use Rattle.basics.proofs.Prelude.{◌^◌, ◌≤◌, ◌<◌, add-zero, arith, eqb, ltb, eqb-true, eqb-false, eq-eqb}
use Rattle.basics.proofs.Prelude.{le-leb, ltb-true, lt-ltb, le-ltb}
use mathlib.Core.Path.{fun_ext}
use native.Mathlib.Nat.{lt_of_lt_of_le, zero-mul, mod-eq_of_lt}
use lib.Pow.{pow_pos, pow_mono}
use Rattle.register.proofs.Vocabulary.{contains, set_of, is_up_to, pair_bits, most_clients, is_client, is_honest}
use Rattle.register.proofs.Vocabulary.{WellServer}
use Rattle.basics.proofs.Cases.{by_test, both}
use Rattle.basics.proofs.BitSets.{set_lt, set_above}
use Rattle.basics.proofs.UpTo.{out_of_range, range_none}
use Rattle.register.specs.Server as model
use Rattle.register.specs.Settings as register
use Rattle.server.specs.State as value
use Rattle.server.specs.Memory.{pair_at, readers_at, loaded, numbers_of, view, store, is_sound, server_length}
use Rattle.server.proofs.Memory.{store_view}
use Rattle.state.specs.declared.Settings.{Settings}
use Rattle.state.specs.State.{settings_of}
use Rattle.state.specs.Sound.{is_server_sound}

-- ---- sets

pub outside : (n set : ℕ) → set < 2 ^ n → (d : ℕ) → is_up_to n d ≡ false → contains set d ≡ false
unfolding contains
outside n set small zero e = refl
outside n set small (suc i) e = set_above set n i small (out_of_range n i e)

pub set_fits : (p : ℕ → Bool) (n k : ℕ) → n ≤ k → ((i : ℕ) → n ≤ i → p (suc i) ≡ false) → set_of p k < 2 ^ n
unfolding set_of
set_fits p n zero h none_above = let z : n ≡ 0 = omega arith in rw z (omega arith)
set_fits p n (suc k) h none_above =
    by_test (eqb n (suc k))
    (λ e. let z : n ≡ suc k = eqb-true n (suc k) e in rw z (set_lt p (suc k)))
    (λ e. let z = eqb-false n (suc k) e in
    let less : n ≤ k = omega arith in
    rw (none_above k less, zero-mul (2 ^ k), add-zero (set_of p k)) (set_fits p n k less none_above))

pub below_six : (n set : ℕ) → n ≤ most_clients → set < 2 ^ n → set < 2 ^ most_clients
below_six n set h small = lt_of_lt_of_le small (pow_mono {i = n} {j = most_clients} h)

-- ---- who is there, by places

module _ (settings : Settings) where
  abbrev S : register.Settings
  S = settings_of settings

  pub client_place_lem : (i : ℕ) → is_client S (suc i) ≡ ltb i settings.clients
  unfolding is_client settings_of
  client_place_lem i = rw (le-leb 1 (suc i) (omega arith))

  -- no one else is in a set below 2 ^ clients
  pub no_client : (set : ℕ) → set < 2 ^ settings.clients
      → (d : ℕ) → is_client S d ≡ false → contains set d ≡ false
  unfolding is_client settings_of
  no_client set small d e = outside settings.clients set small d e

  -- ---- a server's memory at place j

  module _ (six : settings.clients ≤ most_clients) (j : ℕ) (memory : List ℕ)
      (h : is_server_sound settings j (get_or memory pair_at 0) (get_or memory readers_at 0) ≡ true) where
    abbrev pair : ℕ
    pair = get_or memory pair_at 0

    abbrev readers : ℕ
    readers = get_or memory readers_at 0

    unused : is_honest S (suc j) ≡ false → (pair ≡ 0) × (readers ≡ 0)
    unfolding is_server_sound
    unused e =
        let q = both (eqb pair 0) (eqb readers 0) (rw e at h) in
        (eqb-true pair 0 q.0, eqb-true readers 0 q.1)

    held : (pair < 2 ^ pair_bits) × (readers < 2 ^ settings.clients)
    unfolding is_server_sound
    held =
        by_test (is_honest S (suc j))
        (λ e. let q = both (ltb pair (2 ^ pair_bits)) (ltb readers (2 ^ settings.clients)) (rw e at h) in
        (ltb-true pair (2 ^ pair_bits) q.0, ltb-true readers (2 ^ settings.clients) q.1))
        (λ e. let q = unused e in
        let positive : 0 < 2 ^ settings.clients = pow_pos settings.clients in
        (omega (arith, q.0), omega (arith, q.1, positive)))

    small : readers < 2 ^ most_clients
    small = below_six settings.clients readers six held.1

    low_byte : readers % 2 ^ 8 ≡ readers
    low_byte = let few = small in mod-eq_of_lt (omega arith)

    pub well_server : WellServer S (view memory)
    unfolding view loaded value.view
    well_server = record { pair = held.0; readers = no_client (readers % 2 ^ 8) (rw low_byte held.1) }

    pub unused_server : is_honest S (suc j) ≡ false → view memory ≡ model.new_server
    unfolding view loaded value.view
    unused_server e =
        let q = unused e in
        let empty : readers % 2 ^ 8 < 2 ^ 0 = rw (low_byte, q.1) (omega arith) in
        let nobody : contains (readers % 2 ^ 8) ≡ (λ (d : ℕ). false) =
        fun_ext (λ d. outside 0 (readers % 2 ^ 8) empty d (range_none d)) in
        λ i. record { pair = record { 0 = q.0 i }; readers = nobody i }

    pub server_back : length memory ≡ server_length → store (view memory) ≡ memory
    unfolding is_sound
    server_back long = store_view memory
        (rw (eq-eqb _ server_length long) (lt-ltb readers (2 ^ most_clients) small))

  -- ---- a stored server

  pub stored_server : (j : ℕ) (kept : model.Server) → settings.clients ≤ most_clients → WellServer S kept
      → (is_honest S (suc j) ≡ false → kept ≡ model.new_server)
      → is_server_sound settings j (get_or (store kept) pair_at 0) (get_or (store kept) readers_at 0) ≡ true
  unfolding is_server_sound store numbers_of value.store set_of
  stored_server j kept six well empty =
      by_test (is_honest S (suc j))
      (λ e. rw (e, lt-ltb kept.pair.0 (2 ^ pair_bits) well.pair)
      (lt-ltb (set_of kept.readers most_clients) (2 ^ settings.clients)
      (set_fits kept.readers settings.clients most_clients six
      (λ i more. well.readers (suc i) (client_place_lem i ∙ le-ltb i settings.clients more)))))
      (λ e. rw (e, empty e))
