-- `load`: eleven bytes spell three and eight.
use Rattle.basics.proofs.Prelude.{ap, ◌∙◌, arith}
use Rattle.basics.proofs.Bytes.{spelt_two}
use Rattle.message.specs.Layout.{words}
use Rattle.message.proofs.Numbers.{words_back}
use Rattle.message.proofs.load.Goals as goal

pub returns : goal.returns
returns c =
    words_back c.read_bytes.result c.read_bytes-2.result c.read_bytes-2.ensures.within
    ∙ ap words (cc (
      spelt_two c.args.bytes.now c.args.at 3 8 (omega arith),
      c.read_bytes.ensures.spelt,
      c.read_bytes-2.ensures.spelt,
    ))
