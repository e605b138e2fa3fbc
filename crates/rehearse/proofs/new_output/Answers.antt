-- `new_output`: by the law for any length, since this one is too long to be counted out.
-- Assumes nothing.
use Rattle.std.proofs.Common.{ℕ, sym}
use Rattle.std.proofs.lemmas.List.{length-replicate}
use Rattle.rehearse.specs.Blocks.{output_bytes}
use Rattle.rehearse.proofs.new_output.Goals as goal

pub returns : goal.returns
returns c = sym (length-replicate {0} {A = ℕ} output_bytes 0)
