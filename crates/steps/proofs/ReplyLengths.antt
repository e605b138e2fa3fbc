-- How many messages a server's reply puts on one channel: one for a reader that it forwards to, one for the
-- sender.
-- Assumes nothing.
use Rattle.basics.proofs.Prelude.{◌≡◌, refl, Bool, true, false, cond, [], ◌∷◌, ◌++◌, length, ℕ, suc, ◌+◌, ◌≤◌}
use Rattle.basics.proofs.Prelude.{◌<◌, arith, eqb}
use mir.Val.{bool_byte}
use Rattle.register.proofs.Vocabulary.{contains, Message, GetInfo, WriteInfo, Pair, ReadNumber, Server}
use Rattle.register.proofs.Vocabulary.{server_sends, sent_to, most_clients}
use Rattle.register.proofs.Sends.{direct, sent_direct}
use Rattle.server.specs.declared.Sends.TheVariants as sends
use Rattle.server.specs.Serving.{sent_by}

pub byte_le : (test : Bool) → bool_byte test ≤ 1
byte_le true = omega arith
byte_le false = omega arith

pub none_length : (d i : ℕ) → 0 ≡ length (sent_to (suc i) (sent_by d sends.Nothing))
unfolding sent_by sent_to
none_length d i = refl

-- INFO goes to the sender
pub info_length : (d i : ℕ) (number : ReadNumber) (pair : Pair) → i < most_clients → bool_byte (eqb d (suc i))
    ≡ length (sent_to (suc i) (sent_by d (sends.Info number pair)))
unfolding sent_by server_sends direct
info_length d i number pair h =
    let server : Server = record { pair = pair; readers = λ e. false } in
    let own : sent_to (suc i) (server_sends server d (GetInfo number)) ≡ direct server d (GetInfo number)
    (suc i) = sent_direct server d (GetInfo number) (suc i) (omega arith) (omega arith) in
    rw own (one_back (eqb d (suc i)) _)
  where
    one_back : (test : Bool) (m : Message) → bool_byte test ≡ length (cond test (m ∷ []) [])
    one_back true m = refl
    one_back false m = refl

-- FWD to each reader, and WRITE_ACK to the sender
pub forward_length : (d i set : ℕ) (pair : Pair) → i < most_clients
    → bool_byte (contains set (suc i)) + bool_byte (eqb d (suc i)) ≡ length (sent_to (suc i) (sent_by d
    (sends.Forward set pair)))
unfolding sent_by server_sends direct
forward_length d i set pair h =
    let server : Server = record { pair = pair; readers = contains set } in
    let own : sent_to (suc i) (server_sends server d (WriteInfo pair)) ≡ direct server d (WriteInfo pair)
    (suc i) =
    sent_direct server d (WriteInfo pair) (suc i) (omega arith) (omega arith) in
    rw own (sum (contains set (suc i)) (eqb d (suc i)) _ _)
  where
    sum : (a b : Bool) (m n : Message)
        → bool_byte a + bool_byte b ≡ length (cond a (m ∷ []) [] ++ cond b (n ∷ []) [])
    sum true true m n = refl
    sum true false m n = refl
    sum false true m n = refl
    sum false false m n = refl
