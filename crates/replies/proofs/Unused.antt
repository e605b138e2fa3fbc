-- A sound memory of which nothing is used is empty: it shows nothing, and is the memory of what it shows.
-- Assumes nothing.
use Rattle.basics.proofs.Prelude.{◌≡◌, sym, ap, ◌∙◌, Bool, true, false, cond, ◌&&◌, List, replicate, ℕ, ◌≤◌}
use Rattle.basics.proofs.Prelude.{arith, ltb}
use Rattle.register.proofs.Vocabulary.{ReadNumber, cleared, set_limit}
use Rattle.register.specs.declared.Phase.TheVariants.{Idle}
use Rattle.replies.specs.Replies.{replies_length, note_at, size_at, ack_at, held, store_replies}
use Rattle.replies.specs.Sound.{most_noted}
use Rattle.replies.proofs.Soundness.{Sound}
use Rattle.replies.proofs.Storing.{store_held, store_cleared}
use Rattle.replies.proofs.Views.{zero_noted, zero_sets, zero_acks}

nothing : (used : Bool) (limit number : ℕ) → number ≤ cond (used && false) limit 0 → number ≡ 0
nothing true limit number h = omega arith
nothing false limit number h = omega arith

module _ (n : ℕ) (replies : List ℕ) (known : Sound n false false replies) where
  pub unused_empty : replies ≡ replicate replies_length 0
  unused_empty =
      let noted = zero_noted replies
      (λ i h. nothing (ltb i n) most_noted (note_at replies i) (known.part i h).noted) in
      let sets = zero_sets replies
      (λ i h. nothing (ltb i n) set_limit (size_at replies i) (known.part i h).size) in
      let acks = zero_acks replies (λ i h. nothing (ltb i n) 1 (ack_at replies i) (known.part i h).ack) in
      let reads : ReadNumber = record { 0 = 0 } in
      let same : held Idle reads replies ≡ cleared Idle reads =
      λ q. record { phase = Idle; reads = reads; noted = noted q; sets = sets q; acks = acks q } in
      sym (store_held n false false replies known Idle reads) ∙ ap store_replies same
      ∙ store_cleared Idle reads
