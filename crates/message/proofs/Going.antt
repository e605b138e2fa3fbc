-- The message of words that are known to go up to a server, or down from one, by its kind alone.
--
-- Why: words that are no message go nowhere. So a kind of that way has zeros in all fields that it does not
-- use (`fine`), and what is none of the three kinds of a way does not go it (`none_goes`): the other three
-- go the other way.
-- Assumes nothing.
use Rattle.basics.proofs.Prelude.{◌≡◌, refl, Bool, true, false, cond, ◌&&◌, ℕ, ◌/◌, ◌%◌, ◌^◌, eqb, ne_eqb}
use Rattle.std.specs.Prelude.{Ok}
use Rattle.basics.proofs.Cases.{true_or_false}
use Rattle.message.specs.declared.Message.{Message}
use Rattle.message.specs.declared.Message.TheVariants.{GetInfo, Info, Done, WriteInfo, Fwd, WriteAck}
use Rattle.message.specs.Layout.{Unpacked}
use Rattle.message.specs.Layout.{is_reply, goes, malformed}
use Rattle.message.specs.Pair.{counter_at}
use Rattle.message.proofs.Fields.{by_words}

abbrev pub if_fine : Bool → Message → Unpacked
if_fine test message = cond test (Ok message) malformed

fine : (down test : Bool) (message : Message) → goes down (if_fine test message) ≡ true
    → Ok message ≡ if_fine test message
unfolding goes
fine down true message g = refl
fine down false message g = absurd (true_or_false false g refl)

-- of three messages, each by its test, all go the other way: so none goes this way
none_goes : (down is_one is_two is_three fine_one fine_two fine_three : Bool) (one two three : Message)
    → goes down (Ok one) ≡ false → goes down (Ok two) ≡ false → goes down (Ok three) ≡ false
    → goes down (cond is_one (if_fine fine_one one)
    (cond is_two (if_fine fine_two two) (cond is_three (if_fine fine_three three) malformed)))
    ≡ false
unfolding goes
none_goes down true is_two is_three true fine_two fine_three one two three p q r = p
none_goes down true is_two is_three false fine_two fine_three one two three p q r = refl
none_goes down false true is_three fine_one true fine_three one two three p q r = q
none_goes down false true is_three fine_one false fine_three one two three p q r = refl
none_goes down false false true fine_one fine_two true one two three p q r = r
none_goes down false false true fine_one fine_two false one two three p q r = refl
none_goes down false false false fine_one fine_two fine_three one two three p q r = refl

-- by kind, tag and low bits, as the code asks
pub kind_known : (down test : Bool) (message : Message) {found : Unpacked} → found ≡ if_fine test message
    → goes down found ≡ true → Ok message ≡ found
kind_known down test message e g = rw e (fine down test message (rw e at g))

module _ (kind tag low : ℕ) where
  abbrev info : Message
  info = Info (record { 0 = tag }) (record { 0 = low })

  pub none_up : (kind ≡ 1 → ⊥) → (kind ≡ 4 → ⊥) → (kind ≡ 3 → ⊥)
      → goes false (by_words kind tag low) ≡ true → ⊥
  unfolding by_words goes is_reply
  none_up a b c g =
      true_or_false _ g (rw (ne_eqb kind 1 a, ne_eqb kind 4 b, ne_eqb kind 3 c)
      (none_goes false (eqb kind 2) (eqb kind 5) (eqb kind 6)
      true (eqb tag 0 && true) (eqb tag 0 && eqb (low % 2 ^ counter_at) 0)
      info (Fwd (record { 0 = low })) (WriteAck (record { 0 = low / 2 ^ counter_at })) refl refl refl))

  pub none_down : (kind ≡ 5 → ⊥) → (kind ≡ 6 → ⊥) → (kind ≡ 2 → ⊥)
      → goes true (by_words kind tag low) ≡ true → ⊥
  unfolding by_words goes is_reply
  none_down a b c g =
      true_or_false _ g (rw (ne_eqb kind 5 a, ne_eqb kind 6 b, ne_eqb kind 2 c)
      (none_goes true (eqb kind 1) (eqb kind 3) (eqb kind 4)
      (eqb low 0) (eqb tag 0 && eqb low 0) (eqb tag 0 && true)
      (GetInfo (record { 0 = tag })) Done (WriteInfo (record { 0 = low })) refl refl refl))
