-- `of_words`: the first word is kind and tag, and the cases of the code are those of `by_words`, one for each
-- kind.
use Rattle.basics.proofs.Prelude.{sym, ◌∙◌, ◌/◌, ◌^◌, arith, ne_eqb}
use lib.Bits.{and_mask}
use Rattle.message.specs.Pair.{counter_at}
use Rattle.message.specs.Layout.{tag_bits}
use Rattle.message.proofs.Fields.{by_words, of_words_is, found_as}
use Rattle.message.proofs.of_words.Goals as goal

pub returns-in-1 : goal.returns-in-1
unfolding by_words
returns-in-1 c = c.if_zero.ensures ∙ sym (found_as c.args.words (omega arith) 1 c.in-1.is)

pub returns-in-2 : goal.returns-in-2
unfolding by_words
returns-in-2 c = sym (found_as c.args.words (omega arith) 2 c.in-2.is)

pub returns-in-3 : goal.returns-in-3
unfolding by_words
returns-in-3 c = c.if_zero-in-3.ensures ∙ sym (found_as c.args.words (omega arith) 3 c.in-3.is)

pub returns-in-4 : goal.returns-in-4
unfolding by_words
returns-in-4 c = c.if_zero-in-4.ensures ∙ sym (found_as c.args.words (omega arith) 4 c.in-4.is)

pub returns-in-5 : goal.returns-in-5
unfolding by_words
returns-in-5 c = c.if_zero-in-5.ensures ∙ sym (found_as c.args.words (omega arith) 5 c.in-5.is)

pub returns-in-6 : goal.returns-in-6
unfolding by_words
returns-in-6 c =
    c.if_zero-in-6.ensures ∙ rw (and_mask c.args.words.1 counter_at)
    (sym (found_as c.args.words (omega arith) 6 c.in-6.is))

pub returns-in_default : goal.returns-in_default
unfolding by_words
returns-in_default c =
    let kind = c.args.words.0 / 2 ^ tag_bits in
    rw (
      of_words_is c.args.words (omega arith),
      ne_eqb kind 1 (λ e. omega arith),
      ne_eqb kind 2 (λ e. omega arith),
      ne_eqb kind 3 (λ e. omega arith),
      ne_eqb kind 4 (λ e. omega arith),
      ne_eqb kind 5 (λ e. omega arith),
      ne_eqb kind 6 (λ e. omega arith),
    )
