-- Where channels to servers that are faulty or not there hold no message, all 13 counts of a client tell
-- whether it has room.
--
-- An empty channel has room for 8 messages, so the test passes on a channel to a faulty server, which is not
-- asked for room, and on those beyond the n servers.
-- In order: who is not honest; a test that passes from n on; the channels of a client.
-- Assumes nothing.
use Rattle.basics.proofs.Prelude.{◌≡◌, refl, sym, ap, ◌∙◌, Bool, true, false, not, ◌||◌, List, ℕ, zero, suc}
use Rattle.basics.proofs.Prelude.{◌+◌, ◌-◌, ◌≤◌, ◌<◌, arith, leb, le-leb, not-true}
use mathlib.Core.Bool.{and-true}
use native.Mathlib.Numerals.{unary_clauses}
use Rattle.register.proofs.Vocabulary.{all_below, contains, servers, is_server, is_honest, capacity, most_clients}
use Rattle.register.proofs.Vocabulary.{most_servers}
use Rattle.basics.proofs.Cases.{by_test, both, true_or_false}
use Rattle.register.specs.Settings as model
use Rattle.register.proofs.Bounds.{server_range}
use Rattle.channel.specs.Memory.{count_at}
use Rattle.state.specs.declared.Settings.{Settings}
use Rattle.state.specs.State.{settings_of, up_index}
use Rattle.steps.specs.InMemory.{room_up}
use Rattle.steps.specs.Ready.{SpareEmpty}
use Rattle.steps.proofs.Rooms.{below_same}

-- ---- who is not honest

module _ (S : model.Settings) (k : ℕ) where
  faulty_not : S.faulty k ≡ true → is_honest S k ≡ false
  unfolding is_honest
  faulty_not marked =
      by_test (is_honest S k)
      (λ yes. let p = both (is_server S k) (not (S.faulty k)) yes in
      absurd (true_or_false (S.faulty k) marked (not-true _ p.1)))
      (λ no. no)

  beyond_not : servers S < k → is_honest S k ≡ false
  unfolding is_honest
  beyond_not over =
      by_test (is_honest S k)
      (λ yes. let p = both (is_server S k) (not (S.faulty k)) yes in
      let r = server_range S k p.0 in absurd (omega arith))
      (λ no. no)

-- ---- a test that passes from n on is needed only below n

below_more : (p : ℕ → Bool) (n k : ℕ) → ((j : ℕ) → n ≤ j → j < n + k → p j ≡ true)
    → all_below p (n + k) ≡ all_below p n
unfolding all_below
below_more p n zero h = simp unary_clauses
below_more p n (suc k) h =
    simp unary_clauses
    (rw (below_more p n k (λ j low less. h j low (omega arith)), h (n + k) (omega arith) (omega arith))
    (and-true (all_below p n)))

-- ---- the channels of the client at place i

module _ (settings : Settings) (slots : List ℕ) (i more : ℕ) (few : settings.n ≤ most_servers)
    (client : i < most_clients) (most : more ≤ capacity) (spare : SpareEmpty settings slots) where
  abbrev fits : ℕ → Bool
  fits j = leb (count_at slots (up_index i j) + more) capacity

  empty_fits : (j : ℕ) → j < most_servers → is_honest (settings_of settings) (suc j) ≡ false → fits j ≡ true
  empty_fits j less other = let e = spare i j client less other in
      le-leb (count_at slots (up_index i j) + more) capacity (omega arith)

  -- a channel to one of the n servers
  one_fits : (j : ℕ) → j < settings.n → fits j ≡ contains settings.faulty (suc j) || fits j
  unfolding settings_of
  one_fits j less =
      by_test (contains settings.faulty (suc j))
      (λ marked. rw marked (empty_fits j (omega arith) (faulty_not (settings_of settings) (suc j) marked)))
      (λ not_marked. rw not_marked refl)

  pub room_on_all : all_below fits most_servers ≡ room_up settings slots i more
  unfolding room_up settings_of
  room_on_all =
      let n : ℕ = settings.n in
      let all : n + (most_servers - n) ≡ most_servers = omega arith in
      ap (all_below fits) (sym all)
      ∙ below_more fits n (most_servers - n)
      (λ j low less. empty_fits j (omega arith) (beyond_not (settings_of settings) (suc j) (omega arith)))
      ∙ below_same fits _ n one_fits
