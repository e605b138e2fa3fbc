-- Quiet: a working client with nothing on its way is idle.
--
-- Why, for a client that reads: no WRITE_INFO is on its way to an honest server, so every honest server is
-- at or above every pair that was sent (`Delivered`), and so all hold the same pair, the highest
-- (`OnePair`). Nothing is on the client's channels, so each of them has answered, and its pair is in the
-- client's set for it (`WaitingRun`); at least n − f servers are honest. That pair counts: it is in so many
-- sets, and at or above so many noted timestamps, and n − f is at least 2f + 1. So the client would have
-- chosen (`Still`). For one that stores: all honest servers have acknowledged (`Awaiting`), at least n − f,
-- so the write would have ended.
-- In order: all honest servers hold one pair; reading; storing; idle.
-- Assumes nothing.
use Rattle.register.proofs.Vocabulary.{Member, counted, servers, is_client, is_honest, has, Client}
use Rattle.register.proofs.Vocabulary.{is_reading, is_noted, is_at_most}
use Rattle.basics.proofs.Prelude.{◌≡◌, refl, sym, ◌∙◌, subst, Bool, true, false, List, [], ◌∷◌, ◌++◌, Option}
use Rattle.basics.proofs.Prelude.{Some, ℕ, ◌-◌, ◌≤◌, le_trans, arith, leb-false, le-leb}
use Rattle.basics.proofs.Cases.{by_either, true_unless, clash}
use Rattle.message.proofs.Pairs.{initial_stamp}
use Rattle.register.proofs.Vocabulary.{Entry, Message, WriteInfo, Pair, WriteCounter, stamp, Phase}
use Rattle.register.proofs.Vocabulary.{Idle, Reading, ReadingForWrite, Storing}
use Rattle.register.proofs.Counted.{counted_mono, counted_found}
use Rattle.register.proofs.Bounds.{many_honest}
use Rattle.register.proofs.Run.{Run, world_in, bounded}
use Rattle.register.proofs.PairSets.{member_has}
use Rattle.register.proofs.Choice.{chosen_none}
use Rattle.register.proofs.Infos.{infos, number_one}
use Rattle.register.proofs.Low.{low}
use Rattle.register.proofs.Genuine.{genuine}
use Rattle.register.proofs.Delivered.{delivered}
use Rattle.register.proofs.OnePair.{known_same}
use Rattle.register.proofs.Still.{still}
use Rattle.register.proofs.Awaiting.{awaiting}
use Rattle.register.proofs.WaitingRun.{waiting}

nil_snoc : (channel : List Message) (message : Message) → [] ≡ channel ++ message ∷ [] → ⊥
nil_snoc [] message e = clash (cc)
nil_snoc (message' ∷ rest) message e = clash (cc)

noted_some : (note : Option ℕ) (time : ℕ) → note ≡ Some time → is_noted note ≡ true
unfolding is_noted
noted_some note time e = rw e refl

at_most_some : (limit : ℕ) (note : Option ℕ) (time : ℕ) → note ≡ Some time → time ≤ limit
    → is_at_most limit note ≡ true
unfolding is_at_most
at_most_some limit note time e le = rw e (le-leb time limit le)

-- client d works before step n, and nothing is on its way
module _ (run : Run) (n d : ℕ) (client : is_client run.settings d ≡ true)
    (works : (world_in run n).stopped d ≡ false)
    (no_write : (d' k : ℕ) (pair : Pair) → is_honest run.settings k ≡ true
    → Member (WriteInfo pair) ((world_in run n).up d' k) → ⊥)
    (up : (k : ℕ) → is_honest run.settings k ≡ true → (world_in run n).up d k ≡ [])
    (down : (k : ℕ) → is_honest run.settings k ≡ true → (world_in run n).down d k ≡ []) where
  abbrev present : ℕ → Pair
  present k = ((world_in run n).servers k).pair

  abbrev self : Client
  self = (world_in run n).clients d

  -- ---- all honest servers hold one pair

  not_higher : (j k : ℕ) → is_honest run.settings k ≡ true → stamp (present j) ≤ stamp (present k)
  not_higher j k honest =
      by_either ((genuine run n).server j) (λ e. rw (e, initial_stamp) (omega arith))
      (λ written. by_either (delivered run n written.at written.before written.client
      (present j) k honest written.puts)
      (λ member. absurd (no_write written.client k (present j) honest member)) (λ l. l))

  one_pair : (j k : ℕ) → is_honest run.settings j ≡ true → is_honest run.settings k ≡ true
      → present j ≡ present k
  one_pair j k honest honest' =
      known_same run n (present j) (present k) ((genuine run n).server j) ((genuine run n).server k)
      (let a = not_higher j k honest' in let b = not_higher k j honest in omega arith)

  -- ---- reading

  -- server k has answered, and its pair is in the set
  record Answered (k : ℕ) : Type 0 where
    time : ℕ
    noted : self.noted k ≡ Some time
    held : Member (present k) (self.sets k)

  answered : is_reading self.phase ≡ true → (k : ℕ) → is_honest run.settings k ≡ true → Answered k
  unfolding infos
  answered reading k honest =
      by_either (waiting run n d k client honest works reading)
      (λ state. absurd (nil_snoc state.get.before _ (sym (up k honest) ∙ state.get.channel)))
      (λ state. let once = rw (down k honest) at state.once in
      let found = number_one (self.noted k) (omega arith) in
      record {
        time = found.0;
        noted = found.1;
        held =
            by_either state.told (λ b. b)
            (λ b. absurd (by_either b (λ c. rw (down k honest) at c) (λ c. rw (down k honest) at c)));
      })

  -- at least n − f servers are honest, so what holds of each of them holds of at least n − f
  many : (test : ℕ → Bool) → ((k : ℕ) → is_honest run.settings k ≡ true → test k ≡ true)
      → servers run.settings - run.settings.f ≤ counted test (servers run.settings)
  many test h =
      le_trans (many_honest run.settings (bounded run))
      (counted_mono (is_honest run.settings) test (servers run.settings) (λ k _ _ e. h k e))

  not_reading_now : is_reading self.phase ≡ true → ⊥
  not_reading_now reading =
      let least = (bounded run).least in
      let honest_ones = many_honest run.settings (bounded run) in
      let one = counted_found (is_honest run.settings) (servers run.settings) (omega arith) in
      let k = one.server in
      let pair = present k in
      let spoken =
      many (λ j. is_noted (self.noted j)) (λ j honest. noted_some _ _ (answered reading j honest).noted) in
      let below = many (λ j. is_at_most (stamp pair) (self.noted j))
      (λ j honest. let state = answered reading j honest in
      at_most_some (stamp pair) (self.noted j) state.time state.noted
      (le_trans (((low run n).clients d j honest).noted state.time state.noted)
      (not_higher j k one.left))) in
      let held = many (λ j. has pair (self.sets j)) (λ j honest. member_has pair (self.sets j)
      (subst (λ (q : Pair). Member q (self.sets j)) (one_pair j k honest one.left)
      (answered reading j honest).held)) in
      chosen_none (servers run.settings) run.settings.f self d ((still run n d).undecided reading)
      (true_unless _ (λ e. omega (arith, leb-false))) pair
      (record { server = k; low = one.low; high = one.high; member = (answered reading k one.left).held })
      (record {
        not_old = true_unless _ (λ e. omega (arith, leb-false));
        valid = true_unless _ (λ e. omega (arith, leb-false));
      })

  -- ---- storing

  not_storing_now : (entry : Entry) (count : WriteCounter) → self.phase ≡ Storing entry count → ⊥
  not_storing_now entry count was =
      let few = (still run n d).few entry count was in
      let all = many self.acks
      (λ k honest. by_either (awaiting run n d k client honest works entry count was) (λ a. a)
      (λ a. absurd (by_either a (λ b. rw (up k honest) at b.1) (λ b. rw (down k honest) at b)))) in
      omega (arith, leb-false)

  -- ---- idle

  only_idle : (phase : Phase) → (is_reading phase ≡ true → ⊥)
      → ((entry : Entry) (count : WriteCounter) → phase ≡ Storing entry count → ⊥) → phase ≡ Idle
  unfolding is_reading
  only_idle Idle no_read no_store = refl
  only_idle Reading no_read no_store = absurd (no_read refl)
  only_idle (ReadingForWrite entry) no_read no_store = absurd (no_read refl)
  only_idle (Storing entry count) no_read no_store = absurd (no_store entry count refl)

  pub idle : self.phase ≡ Idle
  idle = only_idle self.phase not_reading_now not_storing_now
