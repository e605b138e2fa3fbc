-- `is_reply`: the words are the message that their bytes unpack to. Assumes nothing.
use Rattle.basics.proofs.Prelude.{sym, ap, ◌∙◌, arith}
use Rattle.message.specs.Layout.{goes_down, goes}
use Rattle.steps.proofs.Lying.{words_unpack}
use Rattle.steps.proofs.step.is_reply.Goals as goal

pub returns-in_default : goal.returns-in_default
unfolding goes
returns-in_default c =
    ap goes_down (sym c.in_default.is ∙ c.of_words.ensures ∙ words_unpack c.args.words (omega arith))

pub returns : goal.returns
unfolding goes
returns c =
    c.is_reply.ensures
    ∙ ap goes_down (sym c.in-Ok.is ∙ c.of_words.ensures ∙ words_unpack c.args.words (omega arith))
