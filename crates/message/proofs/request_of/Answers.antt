-- `request_of`: each kind that goes up, by its number; nothing else goes up.
use Rattle.basics.proofs.Prelude.{true, false, ◌&&◌, ◌/◌, ◌^◌, arith, eqb}
use lib.Bits.{bit_and}
use Rattle.message.specs.Layout.{tag_bits, last_read}
use Rattle.message.proofs.Fields.{by_words, found_as}
use Rattle.message.proofs.Going.{kind_known, none_up}
use Rattle.message.proofs.request_of.Goals as goal

pub returns-then-kind-eq1 : goal.returns-then-kind-eq1
unfolding by_words
returns-then-kind-eq1 c =
    let words = c.args.words in
    kind_known false (eqb words.1 0) _ (found_as words (omega arith) 1 (omega arith)) c.requires

pub returns-then-kind-eq4 : goal.returns-then-kind-eq4
unfolding by_words
returns-then-kind-eq4 c =
    let words = c.args.words in
    kind_known false (eqb (bit_and words.0 last_read) 0 && true) _
    (found_as words (omega arith) 4 (omega arith)) c.requires

pub returns-then-kind-eq3 : goal.returns-then-kind-eq3
unfolding by_words
returns-then-kind-eq3 c =
    let words = c.args.words in
    kind_known false (eqb (bit_and words.0 last_read) 0 && eqb words.1 0) _
    (found_as words (omega arith) 3 (omega arith)) c.requires

pub returns : goal.returns
returns c =
    let words = c.args.words in
    let kind = words.0 / 2 ^ tag_bits in
    let is = found_as words (omega arith) kind (omega arith) in
    absurd (none_up kind (bit_and words.0 last_read) words.1 (λ e. omega arith) (λ e. omega arith)
    (λ e. omega arith) (rw is at c.requires))
