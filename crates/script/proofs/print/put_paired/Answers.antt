-- `put_paired`: a word, a pair and the line's end.
use Rattle.basics.proofs.Prelude.{arith}
use Rattle.script.proofs.Lengths.{pair_short}
use Rattle.script.proofs.Writing.{keeps, then}
use Rattle.script.proofs.print.put_paired.Goals as goal

pub put_text-requires : goal.put_text-requires
put_text-requires c =
    let word = c.put_text-word_end.ensures in
    let pair = c.put_pair-pair_end.ensures in
    omega (arith, pair_short c.args.pair, keeps word, keeps pair, word.ends, pair.ends)

pub returns : goal.returns
returns c = then (then c.put_text-word_end.ensures c.put_pair-pair_end.ensures) c.put_text.ensures
