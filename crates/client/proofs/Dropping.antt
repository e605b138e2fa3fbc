-- A message that a client does not take is dropped: the model's step on it leaves the client and sends
-- nothing.
--
-- Why: on each kind the step makes the test of `is_taken` first (`not_taken`). No message is taken by an idle
-- client (`idle_takes_none`), no INFO of another read (`other_read`), no acknowledgement of another write
-- (`other_write`).
-- Assumes nothing.
use Rattle.basics.proofs.Prelude.{◌≡◌, refl, ap, true, false, ℕ, ne_eqb}
use Rattle.basics.proofs.Cases.{by_test}
use Rattle.register.proofs.Vocabulary.{Message, GetInfo, Info, Done, WriteInfo, Fwd, WriteAck, Pair}
use Rattle.register.proofs.Vocabulary.{ReadNumber, WriteCounter, is_idle, is_reading, is_storing, sends_nothing}
use Rattle.register.proofs.Vocabulary.{uses_info, client_takes}
use Rattle.register.specs.declared.Phase.{Phase}
use Rattle.register.specs.Client as model
use Rattle.client.specs.Taking.{is_taken}
use Rattle.client.proofs.Starting.{idle_is}

pub not_taken : (n f d : ℕ) (self : model.Client) (k : ℕ) (message : Message) → is_taken self k message ≡ false
    → client_takes n f d self k message ≡ sends_nothing self
unfolding is_taken uses_info client_takes
not_taken n f d self k (GetInfo tag) e = refl
not_taken n f d self k (Info tag pair) e = rw e
not_taken n f d self k Done e = refl
not_taken n f d self k (WriteInfo pair) e = refl
not_taken n f d self k (Fwd pair) e = rw e
not_taken n f d self k (WriteAck count) e = rw e

pub idle_takes_none : (self : model.Client) (k : ℕ) (message : Message) → is_idle self.phase ≡ true
    → is_taken self k message ≡ false
unfolding is_taken uses_info is_reading is_storing
idle_takes_none self k (GetInfo tag) h = refl
idle_takes_none self k (Info tag pair) h = rw (ap is_reading (idle_is self.phase h))
idle_takes_none self k Done h = refl
idle_takes_none self k (WriteInfo pair) h = refl
idle_takes_none self k (Fwd pair) h = ap is_reading (idle_is self.phase h)
idle_takes_none self k (WriteAck count) h =
    ap (λ (phase : Phase). is_storing phase count) (idle_is self.phase h)

pub other_read : (self : model.Client) (k : ℕ) (tag : ReadNumber) (pair : Pair)
    → (tag.0 ≡ self.reads.0 → ⊥) → is_taken self k (Info tag pair) ≡ false
unfolding is_taken uses_info
other_read self k tag pair other =
    by_test (is_reading self.phase) (λ e. rw (e, ne_eqb tag.0 self.reads.0 other)) (λ e. rw e)

pub other_write : (self : model.Client) (k : ℕ) (count : WriteCounter) → is_storing self.phase count ≡ false
    → is_taken self k (WriteAck count) ≡ false
unfolding is_taken
other_write self k count late = late
