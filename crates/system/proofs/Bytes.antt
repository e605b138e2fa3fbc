-- Any bytes as two words: eleven bytes are found again in them, and no others stand for a message.
--
-- Why: the first word of eleven bytes has 24 bits, and the one that stands for all others has 25.
-- Assumes nothing.
use Rattle.basics.proofs.Prelude.{◌≡◌, ap, ◌∙◌, true, cond, List, [], length, ℕ, ◌/◌, ◌^◌, ◌<◌, arith, eqb}
use Rattle.basics.proofs.Prelude.{eqb-true, lt-ltb}
use lib.Pow.{are_bytes}
use Rattle.basics.specs.Bytes.{big_endian, spelt}
use Rattle.basics.proofs.Bytes.{spelt_lt, bytes_back}
use Rattle.basics.proofs.Cases.{by_test}
use Rattle.message.specs.Layout.{words, words_number, message_bytes, head_bits}
use Rattle.state.specs.State.{bytes_in}
use Rattle.system.specs.Step.{words_in}

words_read : (n : ℕ) → words_number (words n) ≡ n
words_read n = omega arith

eleven : (bytes : List ℕ) → length bytes ≡ message_bytes → are_bytes bytes ≡ true
    → bytes_in (words (spelt 0 bytes)) ≡ bytes
unfolding bytes_in
eleven bytes long fine =
    let n = spelt 0 bytes in
    let small : n < 256 ^ 11 = rw long at (spelt_lt bytes fine) in
    let top : n / 2 ^ 64 < 2 ^ head_bits = omega arith in
    rw (lt-ltb (n / 2 ^ 64) (2 ^ head_bits) top)
    (ap (big_endian 11) (words_read n) ∙ (rw long at (bytes_back 0 bytes fine)))

pub bytes_found : (bytes : List ℕ) → are_bytes bytes ≡ true → bytes_in (words_in bytes)
    ≡ cond (eqb (length bytes) message_bytes) bytes []
unfolding words_in bytes_in
bytes_found bytes fine =
    by_test (eqb (length bytes) message_bytes)
    (λ e. rw e (eleven bytes (eqb-true (length bytes) message_bytes e) fine)) (λ e. rw e)
