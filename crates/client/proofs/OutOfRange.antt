-- n or f out of range is refused 3 by each entry point, whatever the memory and whatever is asked (02, C-11).
--
-- Why: the range is the first test of a sound memory, and soundness the first rung of each ladder.
-- Assumes nothing.
use Rattle.basics.proofs.Prelude.{◌≡◌, sym, ap, true, false, not, List, Option, ℕ}
use Rattle.refusal.specs.Numbers.{numbered}
use Rattle.refusal.proofs.Ladders.{stop, climbs}
use Rattle.register.proofs.Vocabulary.{Refusal, Entry, unpack_of, are_servers_in_range}
use Rattle.register.specs.declared.Phase.TheVariants.{Reading, ReadingForWrite}
use Rattle.client.specs.Sound.{is_sound_memory}
use Rattle.client.specs.Outcome.{started_of}
use Rattle.client.specs.Entry.{refused_by, decided, read_refusals, write_refusals, take_refusals}
use Rattle.client.specs.Entry.{received_as, read_of, start_of, write_of, take_of}
use Rattle.client.proofs.Facts.{fail}
use Rattle.client.proofs.Memory.{sound_by}

module _ (d n f : ℕ) (memory : List ℕ) (out : are_servers_in_range n f ≡ false) where
  unsound : not (is_sound_memory n f memory) ≡ true
  unsound = ap not (sym (sound_by n f memory (fail out)))

  pub read_out_of_range : read_of d n f memory ≡ refused_by memory (numbered 3)
  unfolding read_of
  read_out_of_range =
      ap (λ (why : Option Refusal). decided memory why (started_of memory Reading))
      (sym (climbs (read_refusals d n f memory) (stop unsound)))

  pub write_out_of_range : (entry : Entry) → write_of d n f memory entry ≡ refused_by memory (numbered 3)
  unfolding write_of start_of
  write_out_of_range entry =
      ap (λ (why : Option Refusal). decided memory why (started_of memory (ReadingForWrite entry)))
      (sym (climbs (write_refusals d n f memory entry) (stop unsound)))

  pub take_out_of_range : (k : ℕ) (bytes : List ℕ)
      → take_of d n f memory k bytes ≡ refused_by memory (numbered 3)
  unfolding take_of
  take_out_of_range k bytes =
      ap (λ (why : Option Refusal). decided memory why (received_as d n f memory k (unpack_of bytes)))
      (sym (climbs (take_refusals d n f memory k bytes) (stop unsound)))
