-- What four numbers set up, test by test; settings that are accepted are allowed; and what `set_up` leaves.
--
-- Why: numbers of more than eight bits are out of range too (`over_f`, `over_n`, `over_clients`). All others
-- have room in the settings, and for these the tests are the ladder's. What `set_up` leaves is one equation;
-- here are its parts.
-- Assumes nothing.
use Rattle.register.proofs.Vocabulary.{contains, Refusal, most_servers, most_clients, most_faulty, setup_refusal}
use Rattle.register.proofs.Vocabulary.{in_range, are_servers_in_range, least_servers, counted, new_world}
use Rattle.basics.proofs.Prelude.{◌≡◌, refl, sym, ap, ◌∙◌, subst, true, false, List, Option, None, Some, ℕ}
use Rattle.basics.proofs.Prelude.{◌&&◌}
use Rattle.basics.proofs.Prelude.{◌^◌, ◌≤◌, ◌<◌, arith, leb, ltb, le-leb, lt-leb, ltb-true, lt-ltb, le-ltb}
use Rattle.std.specs.Prelude.{Ok, Err, Result}
use Rattle.basics.proofs.Cases.{by_test, clash}
use Rattle.basics.proofs.UpTo.{and-false}
use Rattle.refusal.specs.Ladder.{or_refused}
use Rattle.refusal.specs.declared.Refusal.TheVariants.{BadSettings, TooManyFaulty}
use Rattle.register.specs.Settings as register
use Rattle.state.specs.declared.Settings.{Settings}
use Rattle.state.specs.State.{settings_of}
use Rattle.state.proofs.SoundFacts.{Allowed}
use Rattle.system.specs.Setup.{settings_by, setup_of, SetUp, set_up, set_up_by}
use Rattle.system.specs.Stored.{Stored}

module _ (f n clients faulty : ℕ) where
  -- the settings, as the model has them
  abbrev S : register.Settings
  S = settings_of (settings_by f n clients faulty)

  pub over_marks : 2 ^ most_servers ≤ faulty → setup_of f n clients faulty ≡ Err BadSettings
  unfolding setup_of
  over_marks h = rw (le-ltb faulty (2 ^ most_servers) h)

  module _ (marks : faulty < 2 ^ most_servers) where
    pub out_of_range : in_range S ≡ false → setup_of f n clients faulty ≡ Err BadSettings
    unfolding setup_of setup_refusal
    out_of_range e = rw (lt-ltb faulty (2 ^ most_servers) marks, e)

    pub over_f : 255 < f → setup_of f n clients faulty ≡ Err BadSettings
    unfolding in_range settings_of
    over_f h = out_of_range (rw (lt-leb f most_faulty (omega arith)))

    pub over_n : 255 < n → setup_of f n clients faulty ≡ Err BadSettings
    unfolding in_range settings_of
    over_n h =
        out_of_range (rw (and-false (leb f most_faulty && leb (least_servers f) n) (leb n most_servers)
        (lt-leb n most_servers (omega arith))))

    pub over_clients : 255 < clients → setup_of f n clients faulty ≡ Err BadSettings
    unfolding in_range settings_of
    over_clients h =
        out_of_range
        (by_test (are_servers_in_range n f)
        (λ e. rw (e, le-leb 1 clients (omega arith), lt-leb clients most_clients (omega arith)))
        (λ e. rw e))

    module _ (fine : in_range S ≡ true) where
      pub too_many : ltb f (counted (contains faulty) most_servers) ≡ true
          → setup_of f n clients faulty ≡ Err TooManyFaulty
      unfolding setup_of setup_refusal settings_of
      too_many e = rw (lt-ltb faulty (2 ^ most_servers) marks, fine, e)

      pub is_set : ltb f (counted (contains faulty) most_servers) ≡ false
          → setup_of f n clients faulty ≡ Ok (settings_by f n clients faulty)
      unfolding setup_of setup_refusal settings_of
      is_set e = rw (lt-ltb faulty (2 ^ most_servers) marks, fine, e)

-- ---- a setup that is accepted

by_refusal : (refusal : Option Refusal) (given settings : Settings) → or_refused refusal given
    ≡ Ok settings → (refusal ≡ None) × (given ≡ settings)
by_refusal None given settings h = (refl, (let e : given ≡ settings = cc in e))
by_refusal (Some why) given settings h = clash (cc)

pub allowed_set : (f n clients faulty : ℕ) (settings : Settings) → setup_of f n clients faulty ≡ Ok settings
    → Allowed settings
unfolding setup_of
allowed_set f n clients faulty settings h =
    by_test (ltb faulty (2 ^ most_servers))
    (λ e. let p = by_refusal (setup_refusal (settings_of (settings_by f n clients faulty)))
    (settings_by f n clients faulty) settings (rw e at h) in
    subst Allowed p.1 (record { accepted = p.0; marked = ltb-true faulty (2 ^ most_servers) e }))
    (λ e. let no = rw e at h in clash (cc))

-- ---- what `set_up` leaves

-- the answer is the setup's
answer_is : (wanted : Result Settings Refusal) (servers clients slots : List ℕ)
    → (set_up_by wanted servers clients slots).answer ≡ wanted
unfolding set_up_by
answer_is (Ok settings) servers clients slots = refl
answer_is (Err why) servers clients slots = refl

module _ (wanted : Result Settings Refusal) (servers clients slots : List ℕ)
    (answer : Result Settings Refusal) (servers' clients' slots' : List ℕ)
    (e : set_up answer servers' clients' slots' ≡ set_up_by wanted servers clients slots) where
  pub set_up_answer : answer ≡ wanted
  set_up_answer = ap (λ (z : SetUp). z.answer) e ∙ answer_is wanted servers clients slots

  -- where the answer is known
  known : (told : Result Settings Refusal) → answer ≡ told → set_up answer servers' clients' slots'
      ≡ set_up_by told servers clients slots
  known told is = e ∙ ap (λ (z : Result Settings Refusal). set_up_by z servers clients slots) (sym set_up_answer ∙ is)

  -- accepted: the new world is stored
  pub set_up_stored : (settings : Settings) → answer ≡ Ok settings → Stored new_world servers' clients' slots'
  unfolding set_up_by
  set_up_stored settings is =
      let left = known (Ok settings) is in
      record {
        servers = ap (λ (z : SetUp). z.servers) left;
        clients = ap (λ (z : SetUp). z.clients) left;
        slots = ap (λ (z : SetUp). z.slots) left;
      }

  -- refused: all is as it was
  pub set_up_kept : (why : Refusal) → answer ≡ Err why → (servers' ≡ servers) × (clients' ≡ clients)
      × (slots' ≡ slots)
  unfolding set_up_by
  set_up_kept why is =
      let left = known (Err why) is in (
        ap (λ (z : SetUp). z.servers) left,
        ap (λ (z : SetUp). z.clients) left,
        ap (λ (z : SetUp). z.slots)
            left,
      )
