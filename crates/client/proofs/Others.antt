-- What a message, and a phase, can be once some kinds of it are ruled out.
-- Assumes nothing.
use Rattle.basics.proofs.Prelude.{◌≡◌, refl, sym, ap, ◌∙◌, false, List, ℕ}
use Rattle.register.proofs.Vocabulary.{Entry, Message, GetInfo, Info, Done, WriteInfo, Fwd, WriteAck, Pair}
use Rattle.register.proofs.Vocabulary.{ReadNumber, WriteCounter, is_storing, uses_info, client_takes}
use Rattle.register.specs.declared.Phase.{Phase}
use Rattle.register.specs.declared.Phase.TheVariants.{Idle, Reading, ReadingForWrite, Storing}
use Rattle.register.specs.Client as model
use Rattle.client.specs.declared.Client.{Client}
use Rattle.client.specs.Memory.{counter_in}
use Rattle.client.specs.Sound.{stores}
use Rattle.client.specs.Sends.{After, received_of}
use Rattle.client.specs.Collecting.{is_collected, with_reply, received_pair_of}
use Rattle.client.specs.Taking.{is_taken}

-- a message is of another kind
abbrev NoInfo : Message → Type 0
NoInfo message = (tag : ReadNumber) (pair : Pair) → message ≡ Info tag pair → ⊥

abbrev NoFwd : Message → Type 0
NoFwd message = (pair : Pair) → message ≡ Fwd pair → ⊥

abbrev NoAck : Message → Type 0
NoAck message = (count : WriteCounter) → message ≡ WriteAck count → ⊥

-- a fact of a message that is neither INFO nor FWD
by_other : (P : Message → Type 0) → ((tag : ReadNumber) → P (GetInfo tag)) → P Done
    → ((pair : Pair) → P (WriteInfo pair))
    → ((count : WriteCounter) → P (WriteAck count)) → (message : Message)
    → NoInfo message → NoFwd message → P message
by_other P get done write ack (GetInfo tag) i f = get tag
by_other P get done write ack (Info tag pair) i f = absurd (i tag pair refl)
by_other P get done write ack Done i f = done
by_other P get done write ack (WriteInfo pair) i f = write pair
by_other P get done write ack (Fwd pair) i f = absurd (f pair refl)
by_other P get done write ack (WriteAck count) i f = ack count

-- it is not collected
pub no_pair : (client : Client) (replies : List ℕ) (k : ℕ) (message : Message)
    → NoInfo message
    → NoFwd message → is_collected client replies k message ≡ false
unfolding is_collected
no_pair client replies k =
    by_other (λ (message : Message). is_collected client replies k message ≡ false) (λ tag. refl) refl
    (λ pair. refl) (λ count. refl)

-- and if it is no WRITE_ACK either, it is not taken
pub none_taken : (self : model.Client) (k : ℕ) (message : Message) → NoInfo message
    → NoFwd message → NoAck message
    → false ≡ is_taken self k message
unfolding is_taken
none_taken self k =
    by_other (λ (message : Message). NoAck message → false ≡ is_taken self k message)
    (λ tag a. refl) (λ a. refl) (λ pair a. refl) (λ count a. absurd (a count refl))

-- what is no WRITE_ACK is received as INFO and FWD are
pub as_pair : (client : Client) (replies : List ℕ) (k : ℕ) (message : Message) (outcome : After)
    → NoAck message
    → outcome ≡ received_pair_of client replies k message → outcome ≡ received_of client replies k message
unfolding is_collected with_reply uses_info client_takes
as_pair client replies k (GetInfo tag) outcome o e = e
as_pair client replies k (Info tag pair) outcome o e = e
as_pair client replies k Done outcome o e = e
as_pair client replies k (WriteInfo pair) outcome o e = e
as_pair client replies k (Fwd pair) outcome o e = e
as_pair client replies k (WriteAck count) outcome o e = absurd (o count refl)

pub same_receipt : (client : Client) (replies : List ℕ) (k : ℕ) (message other : Message) (outcome : After)
    → message ≡ other
    → outcome ≡ received_of client replies k other → outcome ≡ received_of client replies k message
same_receipt client replies k message other outcome same e = e ∙ ap (received_of client replies k) (sym same)

-- ---- a phase that does not store

abbrev NoStoring : Phase → Type 0
NoStoring phase = (entry : Entry) (count : WriteCounter) → phase ≡ Storing entry count → ⊥

by_earlier : (P : Phase → Type 0) → P Idle → P Reading → ((entry : Entry) → P (ReadingForWrite entry))
    → (phase : Phase) → NoStoring phase → P phase
by_earlier P idle read write Idle o = idle
by_earlier P idle read write Reading o = read
by_earlier P idle read write (ReadingForWrite entry) o = write entry
by_earlier P idle read write (Storing entry count) o = absurd (o entry count refl)

pub not_storing : (phase : Phase) → NoStoring phase → false ≡ stores phase
unfolding stores
not_storing = by_earlier (λ (phase : Phase). false ≡ stores phase) refl refl (λ e. refl)

pub not_storing_with : (phase : Phase) (count : WriteCounter) → NoStoring phase
    → false ≡ is_storing phase count
unfolding is_storing
not_storing_with phase count =
    by_earlier (λ (ph : Phase). false ≡ is_storing ph count) refl refl (λ e. refl) phase

pub no_counter : (phase : Phase) → NoStoring phase → 0 ≡ counter_in phase
unfolding counter_in
no_counter = by_earlier (λ (phase : Phase). 0 ≡ counter_in phase) refl refl (λ e. refl)
