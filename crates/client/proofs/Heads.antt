-- The head of a memory and the phase that it stands for.
--
-- A sound code, entry and counter are those of the phase that they make (`head_facts`), by cases on the code.
-- Those of a sound phase are sound (`head_sound`), and those of any phase make it again, if its counter has
-- 32 bits (`phase_again`), by cases on the phase. Whether a phase is idle needs its code alone
-- (`idle_again`).
-- Assumes nothing.
use Rattle.basics.proofs.Prelude.{◌≡◌, refl, sym, ap, ◌∙◌, Bool, true, List, [], ◌∷◌, ℕ, zero, suc, ◌%◌, ◌^◌}
use Rattle.basics.proofs.Prelude.{◌<◌, arith, leb, ltb, eqb-true, leb-true, ltb-true}
use Rattle.basics.proofs.Cases.{both, both_of}
use Rattle.basics.proofs.Tests.{each}
use Rattle.licence.specs.Entry.{is_licence}
use Rattle.register.proofs.Vocabulary.{counter_bits, entry_of, is_idle}
use Rattle.register.specs.declared.Phase.{Phase}
use Rattle.register.specs.declared.Phase.TheVariants.{Idle, Reading, ReadingForWrite, Storing}
use Rattle.client.specs.Memory.{storing_code, phase_of, code_of, counter_in}
use Rattle.client.specs.Sound.{is_sound_phase, is_sound_entry, is_sound_counter, is_sound_head}
use Rattle.client.proofs.Facts.{Passes, passes}

-- a code, an entry and a counter are those of their phase, and it is sound
pub record Head (code entry count : ℕ) : Type 0 where
  pub same_code : code_of (phase_of code entry (count % 2 ^ 32)) ≡ code
  pub same_entry : (entry_of (phase_of code entry (count % 2 ^ 32))).0 ≡ entry
  pub same_counter : counter_in (phase_of code entry (count % 2 ^ 32)) ≡ count
  pub sound : is_sound_phase (phase_of code entry (count % 2 ^ 32)) ≡ true

none : (count : ℕ) → ltb count 1 ≡ true → 0 ≡ count
none count h = let g = ltb-true count 1 h in omega arith

pub mod_small : (n : ℕ) → n < 2 ^ 32 → n % 2 ^ 32 ≡ n
mod_small n h = omega arith

abbrev tests : (code entry count : ℕ) → List Bool
tests code entry count = leb code storing_code ∷ is_sound_entry code entry ∷ is_sound_counter code count ∷ []

head_by : (code entry count : ℕ) → leb code storing_code ≡ true → is_sound_entry code entry ≡ true
    → is_sound_counter code count ≡ true → Head code entry count
unfolding phase_of code_of entry_of counter_in is_sound_phase
head_by zero entry count h he hc = record {
  same_code = refl;
  same_entry = sym (eqb-true entry 0 he);
  same_counter = none count hc;
  sound = refl;
}
head_by (suc zero) entry count h he hc = record {
  same_code = refl;
  same_entry = sym (eqb-true entry 0 he);
  same_counter = none count hc;
  sound = refl;
}
head_by (suc (suc zero)) entry count h he hc =
    record { same_code = refl; same_entry = refl; same_counter = none count hc; sound = he }
head_by (suc (suc (suc zero))) entry count h he hc =
    let few = ltb-true count (2 ^ counter_bits) hc in
    let same = mod_small count (omega arith) in
    record {
      same_code = refl;
      same_entry = refl;
      same_counter = same;
      sound = both_of (is_licence entry) (ltb (count % 2 ^ 32) (2 ^ counter_bits)) he
          (ap (λ (n : ℕ). ltb n (2 ^ counter_bits)) same ∙ hc);
    }
head_by (suc (suc (suc (suc n)))) entry count h he hc =
    let few = leb-true (suc (suc (suc (suc n)))) storing_code h in absurd (omega arith)

pub head_facts : (code entry count : ℕ) → is_sound_head code entry count ≡ true → Head code entry count
unfolding is_sound_head
head_facts code entry count h =
    let passed = each (tests code entry count) h in
    head_by code entry count passed.0 passed.1.0 passed.1.1.0

pub head_of : (code entry count : ℕ) {b : Bool} → Passes (tests code entry count) b
    → b ≡ is_sound_head code entry count
unfolding is_sound_head
head_of code entry count = passes (tests code entry count)

-- ---- from a phase

pub head_sound : (phase : Phase) → is_sound_phase phase ≡ true
    → is_sound_head (code_of phase) (entry_of phase).0 (counter_in phase) ≡ true
unfolding code_of entry_of counter_in is_sound_phase is_sound_head
head_sound Idle h = refl
head_sound Reading h = refl
head_sound (ReadingForWrite entry) h = rw h
head_sound (Storing entry count) h =
    let parts = both (is_licence entry.0) (ltb count.0 (2 ^ counter_bits)) h in rw (parts.0, parts.1)

-- a sound phase's counter has 32 bits
pub counter_fits : (phase : Phase) → is_sound_phase phase ≡ true → counter_in phase < 2 ^ 32
unfolding counter_in is_sound_phase
counter_fits Idle h = omega arith
counter_fits Reading h = omega arith
counter_fits (ReadingForWrite entry) h = omega arith
counter_fits (Storing entry count) h =
    let parts = both (is_licence entry.0) (ltb count.0 (2 ^ counter_bits)) h in
    let few = ltb-true count.0 (2 ^ counter_bits) parts.1 in omega arith

pub phase_again : (phase : Phase) → counter_in phase < 2 ^ 32
    → phase_of (code_of phase) (entry_of phase).0 (counter_in phase % 2 ^ 32) ≡ phase
unfolding phase_of code_of entry_of counter_in
phase_again Idle h = refl
phase_again Reading h = refl
phase_again (ReadingForWrite entry) h = refl
phase_again (Storing entry count) h =
    ap (λ (n : ℕ). Storing entry (record { 0 = n })) (mod_small count.0 h)

pub idle_again : (phase : Phase) (entry count : ℕ)
    → is_idle (phase_of (code_of phase) entry count) ≡ is_idle phase
unfolding phase_of code_of is_idle
idle_again Idle entry count = refl
idle_again Reading entry count = refl
idle_again (ReadingForWrite own) entry count = refl
idle_again (Storing own counter) entry count = refl
