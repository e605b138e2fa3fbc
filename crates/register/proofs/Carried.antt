-- The pair that a message carries, and a property of it.
--
-- INFO, WRITE_INFO and FWD carry a pair. `Good Q` says of a message that its pair has the property Q: what is
-- true of all messages on a channel is true of the pairs that come from it (`carried`).
-- Assumes nothing.
use Rattle.basics.proofs.Prelude.{◌≡◌, ◌⊎◌, inl, inr}
use Rattle.register.proofs.Vocabulary.{Message, GetInfo, Info, Done, WriteInfo, Fwd, WriteAck, Pair}
use Rattle.register.proofs.Vocabulary.{ReadNumber}

-- the message of a server carries the pair
abbrev pub Carries : Message → Pair → Type 0
Carries message pair = (message ≡ Fwd pair) ⊎ ((tag : ReadNumber) × (message ≡ Info tag pair))

-- a message's pair has the property Q
abbrev pub Good : (Pair → Type 0) → Message → Type 0
Good Q (GetInfo tag) = Unit {0}
Good Q (Info tag pair) = Q pair
Good Q Done = Unit {0}
Good Q (WriteInfo pair) = Q pair
Good Q (Fwd pair) = Q pair
Good Q (WriteAck count) = Unit {0}

pub carried : (Q : Pair → Type 0) (message : Message) (pair : Pair) → Carries message pair → Good Q message
    → Q pair
carried Q message pair (inl e) good = rw e at good
carried Q message pair (inr (tag, e)) good = rw e at good

pub good_mono : (Q Q' : Pair → Type 0) → ((pair : Pair) → Q pair → Q' pair) → (message : Message)
    → Good Q message → Good Q' message
good_mono Q Q' more (GetInfo tag) good = tt
good_mono Q Q' more (Info tag pair) good = more pair good
good_mono Q Q' more Done good = tt
good_mono Q Q' more (WriteInfo pair) good = more pair good
good_mono Q Q' more (Fwd pair) good = more pair good
good_mono Q Q' more (WriteAck count) good = tt
