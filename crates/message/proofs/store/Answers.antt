-- `store`: eleven bytes are three and eight.
use Rattle.basics.proofs.Prelude.{ap, ◌∙◌, List, ℕ, ◌+◌, arith}
use lib.Seq.{sets}
use Rattle.basics.specs.Bytes.{big_endian}
use Rattle.basics.proofs.Bytes.{sets_two}
use Rattle.message.proofs.store.Goals as goal

pub returns : goal.returns
returns c =
    let w = c.args.words in
    c.write_bytes-2.ensures
    ∙ ap (λ (s : List ℕ). sets s (c.args.at + 3) (big_endian 8 w.1)) c.write_bytes.ensures
    ∙ sets_two c.args.out.now c.args.at 3 8 w.0 w.1 (omega arith)
