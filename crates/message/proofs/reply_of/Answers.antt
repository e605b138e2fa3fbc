-- `reply_of`: each kind that goes down, by its number; nothing else goes down.
use Rattle.basics.proofs.Prelude.{true, ◌&&◌, ◌/◌, ◌%◌, ◌^◌, arith, eqb}
use lib.Bits.{bit_and}
use Rattle.message.specs.Pair.{counter_at}
use Rattle.message.specs.Layout.{tag_bits, last_read}
use Rattle.message.proofs.Fields.{by_words, found_as}
use Rattle.message.proofs.Going.{kind_known, none_down}
use Rattle.message.proofs.reply_of.Goals as goal

pub returns-then-kind-eq5 : goal.returns-then-kind-eq5
unfolding by_words
returns-then-kind-eq5 c =
    let words = c.args.words in
    kind_known true (eqb (bit_and words.0 last_read) 0 && true) _
    (found_as words (omega arith) 5 (omega arith)) c.requires

pub returns-then-kind-eq6 : goal.returns-then-kind-eq6
unfolding by_words
returns-then-kind-eq6 c =
    let words = c.args.words in
    kind_known true (eqb (bit_and words.0 last_read) 0 && eqb (words.1 % 2 ^ counter_at) 0) _
    (found_as words (omega arith) 6 (omega arith)) c.requires

pub returns-then-kind-eq2 : goal.returns-then-kind-eq2
unfolding by_words
returns-then-kind-eq2 c =
    let words = c.args.words in
    kind_known true true _ (found_as words (omega arith) 2 (omega arith)) c.requires

pub returns : goal.returns
returns c =
    let words = c.args.words in
    let kind = words.0 / 2 ^ tag_bits in
    let is = found_as words (omega arith) kind (omega arith) in
    absurd (none_down kind (bit_and words.0 last_read) words.1 (λ e. omega arith) (λ e. omega arith)
    (λ e. omega arith) (rw is at c.requires))
