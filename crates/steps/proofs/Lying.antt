-- L: two words are the message that their bytes unpack to.
--
-- Words of which the first has more than 24 bits stand for no bytes, and their kind is above 15, so no
-- message either way.
-- Assumes nothing.
use Rattle.basics.specs.Bytes.{big_endian, spelt}
use Rattle.basics.proofs.Prelude.{◌≡◌, sym, ap, ◌∙◌, true, false, ℕ, ◌/◌, ◌^◌, ◌≤◌, ◌<◌, arith, ltb, ne_eqb}
use Rattle.basics.proofs.Prelude.{ltb-true, ltb-false, lt-ltb}
use Rattle.basics.proofs.Bytes.{bytes_length, bytes_are, spelt_is}
use Rattle.basics.proofs.Cases.{by_test, true_or_false}
use Rattle.message.specs.declared.Words.{Words}
use Rattle.message.specs.Layout.{malformed, message_of, unpack_of, words, words_number, goes_down, goes, head_bits}
use Rattle.message.proofs.Numbers.{words_back}
use Rattle.message.proofs.RoundTrip.{unpack_bytes}
use Rattle.state.specs.State.{bytes_in}

-- ---- words

-- a number of more than 88 bits is no message
over : (n : ℕ) → 2 ^ 88 ≤ n → message_of n ≡ malformed
unfolding message_of
over n h =
    simp (
      ne_eqb (n / 2 ^ 84) 1 (λ e. omega arith),
      ne_eqb (n / 2 ^ 84) 2 (λ e. omega arith),
      ne_eqb (n / 2 ^ 84) 3 (λ e. omega arith),
      ne_eqb (n / 2 ^ 84) 4 (λ e. omega arith),
      ne_eqb (n / 2 ^ 84) 5 (λ e. omega arith),
      ne_eqb (n / 2 ^ 84) 6 (λ e. omega arith),
    )

no_bytes : (given : Words) → ltb given.0 (2 ^ head_bits) ≡ false → unpack_of (bytes_in given) ≡ malformed
unfolding bytes_in unpack_of
no_bytes given e = rw e

bytes_in_lem : (given : Words) → given.0 < 2 ^ head_bits → bytes_in given ≡ big_endian 11 (words_number given)
unfolding bytes_in
bytes_in_lem given h = rw (lt-ltb given.0 (2 ^ head_bits) h)

pub words_unpack : (given : Words) → given.1 < 2 ^ 64 → message_of (words_number given)
    ≡ unpack_of (bytes_in given)
words_unpack given low =
    by_test (ltb given.0 (2 ^ head_bits))
    (λ e. let h : given.0 < 2 ^ head_bits = ltb-true given.0 (2 ^ head_bits) e in
    let n : ℕ = words_number given in
    let small : words_number given < 256 ^ 11 = omega arith in
    ap message_of (sym (spelt_is 11 n small))
    ∙ sym (unpack_bytes (big_endian 11 n) (bytes_length 11 n) (bytes_are 11 n))
    ∙ ap unpack_of (sym (bytes_in_lem given h)))
    (λ e. let h : 2 ^ head_bits ≤ given.0 = ltb-false given.0 (2 ^ head_bits) e in
    over (words_number given) (omega arith) ∙ sym (no_bytes given e))

-- a reply's first word has 24 bits
pub reply_small : (given : Words) → goes_down (unpack_of (bytes_in given)) ≡ true → given.0 < 2 ^ head_bits
unfolding goes
reply_small given h =
    by_test (ltb given.0 (2 ^ head_bits)) (λ e. ltb-true given.0 (2 ^ head_bits) e)
    (λ e. absurd (true_or_false (goes_down (unpack_of (bytes_in given))) h (ap goes_down (no_bytes given e))))

-- such words are those of their bytes
pub own_words : (given : Words) → given.0 < 2 ^ head_bits → given.1 < 2 ^ 64
    → given ≡ words (spelt 0 (bytes_in given))
own_words given high low =
    let small : words_number given < 256 ^ 11 = omega arith in
    words_back given.0 given.1 low
    ∙ ap words (sym (spelt_is 11 (words_number given) small) ∙ ap (spelt 0) (sym (bytes_in_lem given high)))
