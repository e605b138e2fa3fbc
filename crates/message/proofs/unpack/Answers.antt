-- `unpack`: a slice holds bytes, so only its length is tested before the number that they spell.
use Rattle.basics.proofs.Prelude.{◌≡◌, ap, ◌∙◌, length, take, arith, ne_eqb}
use lib.Seq.{take_all}
use Rattle.basics.proofs.Bytes.{are_bytes_lem}
use Rattle.message.specs.declared.Words.{Words}
use Rattle.message.specs.Layout.{message_bytes, unpack_of, message_of, words_number}
use Rattle.message.proofs.RoundTrip.{of_words_unpacks}
use Rattle.message.proofs.unpack.Goals as goal

pub returns-then-bytes-ne-MESSAGE_BYTES : goal.returns-then-bytes-ne-MESSAGE_BYTES
unfolding unpack_of
returns-then-bytes-ne-MESSAGE_BYTES c = simp (ne_eqb (length c.args.bytes.now) message_bytes (λ e. omega arith))

pub returns : goal.returns
returns c =
    let bytes = c.args.bytes.now in
    let eleven : length bytes ≡ message_bytes = omega arith in
    let all : take message_bytes bytes ≡ bytes = take_all message_bytes bytes (omega arith) in
    let all_bytes = are_bytes_lem bytes (λ i. omega (arith, c.type_inv.bytes i)) in
    c.of_words.ensures ∙ ap (λ (words : Words). message_of (words_number words)) c.load.ensures
    ∙ rw all (of_words_unpacks bytes eleven all_bytes)
