-- Not old: a client that decides for a pair decides for nothing older than what was stored when it began
-- (001, lemma 5.3).
--
-- A timestamp is stored when at least n − 2f honest servers are at or above it; that stays so
-- (`stored_stays`). A write that ends is stored: of its n − f acknowledgements at most f came from faulty
-- servers, and the others are at or above it (`Acknowledged`). The choice stands at or above 2f + 1 noted
-- timestamps. Together these are more than n, so some honest server is in both (`counted_common`); what was
-- noted of it is at least what it held when the client began (`Fresh`). A choice is genuine: it is in f + 1
-- sets, so in that of an honest server (`chosen_known`).
-- Assumes nothing.
use Rattle.basics.proofs.Prelude.{◌≡◌, refl, sym, Bool, true, false, ◌&&◌, inl, Option, None, Some, ℕ, ◌+◌}
use Rattle.basics.proofs.Prelude.{◌-◌, ◌*◌, ◌≤◌, le_trans, arith, leb, leb-true, le-leb}
use Rattle.basics.proofs.Cases.{by_either, both, both_of, true_or_false}
use Rattle.basics.proofs.Update.{update_at}
use Rattle.register.proofs.Vocabulary.{counted, Settings, servers, is_honest, has, is_at_most, with_ack}
use Rattle.register.proofs.Vocabulary.{World}
use Rattle.register.proofs.Vocabulary.{Entry, Pair, WriteCounter, stamp}
use Rattle.register.proofs.Counted.{counted_mono, counted_common, counted_found}
use Rattle.register.proofs.Bounds.{counted_honest}
use Rattle.register.proofs.Run.{Run, world_in, bounded}
use Rattle.register.proofs.PairSets.{has_member}
use Rattle.register.proofs.Choice.{chosen_some}
use Rattle.register.proofs.Grows.{grows_on}
use Rattle.register.proofs.Carried.{carried}
use Rattle.register.proofs.ClientFacts.{grown_came}
use Rattle.register.proofs.Since.{since}
use Rattle.register.proofs.ReadStatus.{DecidesAt}
use Rattle.register.proofs.WriteStatus.{Stores}
use Rattle.register.proofs.Genuine.{Known, genuine}
use Rattle.register.proofs.Fresh.{base, fresh}
use Rattle.register.proofs.Acknowledged.{acknowledged}

-- server k is honest and at or above the timestamp
abbrev pub holds : Settings → World → ℕ → ℕ → Bool
holds settings world time k = is_honest settings k && leb time (stamp (world.servers k).pair)

-- the timestamp is stored
abbrev pub Stored : Settings → World → ℕ → Type 0
Stored settings world time =
    servers settings - 2 * settings.f ≤ counted (holds settings world time) (servers settings)

at_most : (limit : ℕ) (note : Option ℕ) → is_at_most limit note ≡ true
    → (time : ℕ) × (note ≡ Some time) × (time ≤ limit)
unfolding is_at_most
at_most limit None h = absurd (true_or_false false h refl)
at_most limit (Some time) h = (time, refl, leb-true time limit h)

module _ (run : Run) where
  pub stored_stays : (i j time : ℕ) → i ≤ j → Stored run.settings (world_in run i) time
      → Stored run.settings (world_in run j) time
  stored_stays i j time le stored =
      le_trans stored
      (counted_mono (holds run.settings (world_in run i) time) (holds run.settings (world_in run j) time)
      (servers run.settings) (λ k a b e. let holding = both (is_honest run.settings k) _ e in
      both_of (is_honest run.settings k) _ holding.0 (le-leb time _
      (le_trans (leb-true time (stamp ((world_in run i).servers k).pair) holding.1)
      (grows_on run i j le k)))))

  -- what is noted where a client decides is at least what the server held when the client began
  noted_fresh : (n d : ℕ) (pair : Pair) (decides : DecidesAt run n d pair) (k time : ℕ)
      → is_honest run.settings k ≡ true → decides.grown.noted k ≡ Some time → base run n d k ≤ time
  noted_fresh n d pair decides k time honest e =
      by_either ((grown_came decides.grows).note k time e) (λ a. (fresh run n).noted d k honest time a)
      (λ a. rw a.is ((fresh run n).info d k honest ((world_in run n).clients d).reads a.pair
      (rw (← a.server, decides.by.enabled.channel) (inl (sym a.message))) refl))

  pub not_old_lem : (n d : ℕ) (pair : Pair) (time : ℕ) → DecidesAt run n d pair
      → Stored run.settings (world_in run (since run n d)) time → time ≤ stamp pair
  not_old_lem n d pair time decides stored =
      let choice =
      chosen_some (servers run.settings) run.settings.f decides.grown d pair decides.chosen in
      let old = choice.counts.not_old in
      let common = counted_common (holds run.settings (world_in run (since run n d)) time)
      (λ k. is_at_most (stamp pair) (decides.grown.noted k))
      (servers run.settings) (omega (arith, leb-true)) in
      let holding = both (is_honest run.settings common.server) _ common.left in
      let found = at_most (stamp pair) (decides.grown.noted common.server) common.right in
      le_trans (leb-true time _ holding.1)
      (le_trans (noted_fresh n d pair decides common.server found.0 holding.0 found.1) found.2)

  -- a write that ends is stored
  pub stored_end : (d : ℕ) (entry : Entry) (count : WriteCounter) (n : ℕ) → Stores run d entry count n
      → Stored run.settings (world_in run n) (count.0 * 16 + d)
  unfolding with_ack
  stored_end d entry count n stores =
      let old = acknowledged run n in
      let self = (world_in run n).clients d in
      let j = stores.takes.server in
      let high : (k : ℕ) → is_honest run.settings k ≡ true → (with_ack self j).acks k ≡ true
      → count.0 * 16 + d ≤ stamp ((world_in run n).servers k).pair =
      λ k right. update_at (λ t. t ≡ true → count.0 * 16 + d ≤ stamp ((world_in run n).servers k).pair)
      self.acks j k true (λ ek a. old.channel d k right count
      (rw (← ek, stores.takes.enabled.channel) (inl (sym stores.message))))
      (λ ne a. old.counted d k right count (record { entry = entry; phase = stores.phase; acks = a })) in
      let many = stores.many in
      let few = (bounded run).faulty in
      let split = counted_honest run.settings (with_ack self j).acks in
      let honest : counted (λ k. (with_ack self j).acks k && is_honest run.settings k)
      (servers run.settings)
      ≤ counted (holds run.settings (world_in run n) (count.0 * 16 + d)) (servers run.settings) =
      counted_mono (λ k. (with_ack self j).acks k && is_honest run.settings k)
      (holds run.settings (world_in run n) (count.0 * 16 + d)) (servers run.settings)
      (λ k a b e. let q = both ((with_ack self j).acks k) (is_honest run.settings k) e in
      both_of (is_honest run.settings k) _ q.1 (le-leb _ _ (high k q.1 q.0))) in
      omega (arith, leb-true)

  pub chosen_known : (n d : ℕ) (pair : Pair) → DecidesAt run n d pair → Known run n pair
  chosen_known n d pair decides =
      let choice =
      chosen_some (servers run.settings) run.settings.f decides.grown d pair decides.chosen in
      let valid = choice.counts.valid in
      let few = (bounded run).faulty in
      let split = counted_honest run.settings (λ k. has pair (decides.grown.sets k)) in
      let found = counted_found (λ k. has pair (decides.grown.sets k) && is_honest run.settings k)
      (servers run.settings) (omega (arith, leb-true)) in
      let both_hold =
      both (has pair (decides.grown.sets found.server)) (is_honest run.settings found.server)
      found.left in
      let known = genuine run n in
      by_either ((grown_came decides.grows).pair found.server pair (has_member pair _ both_hold.0))
      (λ a. known.sets d found.server both_hold.1 pair a)
      (λ a. carried (Known run n) decides.by.message pair a.message
      (known.down d found.server both_hold.1 decides.by.message
      (rw (← a.server, decides.by.enabled.channel) (inl refl))))
